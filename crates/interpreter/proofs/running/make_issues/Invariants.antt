-- `running::make_issues` meets its contract: the issues made so far and those that the rules make from there are those of the run.
use Prim.Native.Nat.{◌-◌, ◌<◌, ◌≤◌}
use mathlib.Core.Path.{◌≡◌}
use lib.ListN.{length}
use Rattle.machine.specs.State.{state, recounted}
use Rattle.interpreter.specs.Stretch.{Carried}
use Rattle.interpreter.proofs.running.make_issues.Given as goal

abbrev pub invariant-loop-stop : goal.invariant-loop-stop
invariant-loop-stop l =
    (l.left ≤ l.budget) × (length l.registers ≡ length l.initial.registers) × (length l.memory ≡ length l.initial.memory) × (length l.turns ≡ 8)
    × Carried l.program l.budget (state l.initial.machine l.initial.registers l.initial.memory) (l.budget - l.left) l.looks (recounted (state l.machine l.registers l.memory) l.turns)
    × (l.machine.last < 8)

abbrev pub decreases-loop-stop : goal.decreases-loop-stop
decreases-loop-stop l = l.left
