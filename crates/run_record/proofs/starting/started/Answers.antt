-- `started` meets its contract.
use Rattle.std.proofs.Common.{◌≡◌, replicate, ap, ◌∙◌, arith}
use Rattle.thread_entry.specs.Entry.{zero_thread}
use Rattle.machine.specs.Machine.{start_status, start}
use Rattle.machine.specs.declared.record.Machine.{Machine}
use Rattle.machine.proofs.Loops.{changed, change, restating}
use Rattle.run_record.proofs.starting.started.Goals as goal

pub loop-t-init : goal.loop-t-init
unfolding changed
loop-t-init c = ap (λ (m : Machine). m.threads) c.zero.ensures

pub loop-t-preserved : goal.loop-t-preserved
loop-t-preserved c =
    let l = c.loop-t in
    rw c.start_status-entry.ensures
    (change (restating (start_status c.args.mask)) (replicate 8 zero_thread) l.t zero_thread l.entry-items l.invariant (omega arith))

pub returns : goal.returns
unfolding start changed
returns c =
    let l = c.loop-t in
    let mask = c.args.mask in
    let e : l.t ≡ 8 = omega arith in
    ap (λ xs. record { enabled = mask; last = 7; threads = xs })
    (l.invariant ∙ ap (changed (restating (start_status mask)) (replicate 8 zero_thread)) e)
