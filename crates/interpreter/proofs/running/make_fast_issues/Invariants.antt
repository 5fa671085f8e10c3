-- `running::make_fast_issues` meets its contract: as long as the last issue was made, the next thread is chosen and issued.
use Prim.Native.Nat.{ℕ, ◌+◌, ◌*◌, ◌<◌, ◌≤◌}
use mathlib.Core.Bool.{cond}
use mathlib.Core.List.{List}
use mathlib.Core.Path.{◌≡◌}
use lib.ListN.{length}
use Rattle.machine.specs.State.{State}
use Rattle.interpreter.specs.Stretch.{Along, StandsAt}
use Rattle.interpreter.proofs.running.make_fast_issues.Given as goal

abbrev pub invariant-loop-fast : goal.invariant-loop-fast
invariant-loop-fast l =
    (l.fast.last < 8) × (length l.registers ≡ length l.initial.registers) × (length l.memory ≡ length l.initial.memory) × (l.fast.left + cond l.fast.deferred 1 0 ≤ l.left)
    × (l.fast.passed + 8 * l.fast.left ≤ l.passed + 8 * l.left)
    × ((b : ℕ) (first : State) (turns : List ℕ) → length turns ≡ 8 → Along l.program b first l.machine turns l.left l.passed l.last l.initial.registers l.initial.memory
    → StandsAt l.program b first l.machine turns l.fast l.registers l.memory l.fast.deferred)

abbrev pub decreases-loop-fast : goal.decreases-loop-fast
decreases-loop-fast l = l.fast.left
