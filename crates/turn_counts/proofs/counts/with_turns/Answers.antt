-- `with_turns` meets its contract.
use Rattle.std.proofs.Common.{◌≡◌, refl, ap, ◌∙◌, length, arith}
use Rattle.thread_entry.specs.Entry.{zero_thread}
use Rattle.machine.proofs.Loops.{changed, change, recounting, recounted}
use Rattle.turn_counts.proofs.counts.with_turns.Goals as goal

pub loop-t-init : goal.loop-t-init
unfolding changed
loop-t-init c = refl

pub loop-t-preserved : goal.loop-t-preserved
loop-t-preserved c =
    let l = c.loop-t in
    let a = c.args in
    let eight : length a.machine.threads ≡ 8 = c.well_formed.0.1.1.1.0.1.0.1 in
    change (recounting a.turns) a.machine.threads l.t zero_thread l.entry-items l.invariant (omega arith)

pub returns : goal.returns
returns c =
    let l = c.loop-t in
    let a = c.args in
    let eight : length a.machine.threads ≡ 8 = c.well_formed.0.1.1.1.0.1.0.1 in
    let e : l.t ≡ length a.machine.threads = omega arith in
    ap (λ xs. record { enabled = a.machine.enabled; last = a.machine.last; threads = xs })
    (l.invariant ∙ ap (changed (recounting a.turns) a.machine.threads) e ∙ recounted a.turns a.machine.threads)
