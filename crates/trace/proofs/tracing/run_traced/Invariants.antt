-- So far it is the plain run with a budget of the issues made, and each issue's row is in the list.
use Rattle.std.proofs.Common.{◌-◌, length}
use Rattle.machine.specs.State.{state}
use Rattle.trace.specs.Traced.{least}
use Rattle.trace.proofs.Following.{Follows, place}
use Rattle.trace.proofs.tracing.run_traced.Given as goal

abbrev pub invariant-loop-registers : goal.invariant-loop-registers
invariant-loop-registers l =
    Follows l.program (state l.fn.machine l.fn.registers l.fn.memory) (least l.budget (length l.fn.rows)) l.fn.rows
    (place l.run l.registers l.memory l.rows)

abbrev pub decreases-loop-registers : goal.decreases-loop-registers
decreases-loop-registers l = least l.budget (length l.fn.rows) - l.run.issues
