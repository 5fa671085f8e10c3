-- `with_status` meets its contract.
use Rattle.std.proofs.Common.{◌≡◌, refl, ap, arith, length}
use lib.Seq.{set-get_or}
use Rattle.thread_entry.specs.Entry.{zero_thread}
use Rattle.machine.proofs.Loops.{placed-here, placed-on, placed_end}
use Rattle.machine.proofs.record.Machine.with_status.Goals as goal
use Rattle.machine.proofs.record.Machine.with_status.Goals.{then-t-thread, else-t-thread}

pub loop-t-init : goal.loop-t-init
loop-t-init c = record { passed = λ l. absurd (omega arith); ahead = λ l. refl }

pub loop-t-preserved : goal.loop-t-preserved
loop-t-preserved c =
    let l = c.loop-t in
    let a = c.args in
    elim c.if-t-thread.branch [
      | then-t-thread w ↦ rw w.entry-items-is (placed-here a.self.threads a.thread a.status l.t l.entry-items l.invariant w.if-t-thread.true)
      | else-t-thread w ↦ rw (w.entry-items-is, set-get_or l.entry-items l.t zero_thread) (placed-on a.self.threads a.thread a.status l.t l.entry-items l.invariant w.if-t-thread.false)
    ]

pub returns : goal.returns
returns c =
    let l = c.loop-t in
    let a = c.args in
    let eight : length a.self.threads ≡ 8 = c.well_formed.0.1.1.1.0.1.0.1 in
    ap (λ xs. record { enabled = a.self.enabled; last = a.self.last; threads = xs })
    (placed_end a.self.threads a.thread a.status l.t l.entry-items l.invariant (omega arith))
