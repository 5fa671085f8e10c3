-- `running::make_stretch` meets its contract: the fast path makes issues up to one that the slow path makes, until a status is set or
-- nothing more is issued.
use Prim.Native.Nat.{◌<◌}
use mathlib.Core.Path.{◌≡◌}
use lib.ListN.{length}
use Rattle.machine.specs.State.{state, recounted}
use Rattle.interpreter.specs.Stretch.{Along}
use Rattle.interpreter.proofs.running.make_stretch.Given as goal

abbrev pub invariant-loop-machine : goal.invariant-loop-machine
invariant-loop-machine l =
    (l.last < 8) × (length l.registers ≡ length l.initial.registers) × (length l.memory ≡ length l.initial.memory)
    × Along l.program l.initial.left (recounted (state l.machine l.initial.registers l.initial.memory) l.turns) l.machine l.turns l.left l.passed l.last l.registers l.memory

abbrev pub decreases-loop-machine : goal.decreases-loop-machine
decreases-loop-machine l = l.left
