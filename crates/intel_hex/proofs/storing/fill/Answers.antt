-- `fill` meets its contract: what is stored and what is left to store are the whole.
use Prim.Native.Nat.{ℕ, ◌+◌, ◌-◌}
use mathlib.Core.List.{List}
use mathlib.Core.Path.{sym, ap, ◌∙◌}
use native.Mathlib.Omega.{arith}
use lib.ListN.{replicate}
use Rattle.intel_hex.specs.Storing.{store_all}
use Rattle.intel_hex.proofs.Stored.{fill_step, fill_end}
use Rattle.intel_hex.proofs.storing.fill.Goals as goal

pub loop-a-preserved : goal.loop-a-preserved
loop-a-preserved c =
    let x = c.args in
    let l = c.loop-a in
    l.invariant ∙ fill_step l.words l.a x.to (omega arith) ∙ ap (λ (m : List ℕ). store_all m (l.a + 1) (replicate (x.to - (l.a + 1)) 0)) (sym c.put_at.ensures)

pub returns : goal.returns
returns c =
    let x = c.args in
    let l = c.loop-a in
    sym (l.invariant ∙ fill_end l.words l.a x.to (omega arith))
