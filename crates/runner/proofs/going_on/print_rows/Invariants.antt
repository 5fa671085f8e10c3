-- `going_on::print_rows` ends: each page leaves fewer issues.
use Rattle.runner.proofs.going_on.print_rows.Given as goal

abbrev pub invariant-loop-run : goal.invariant-loop-run
invariant-loop-run g l = Unit {0}

abbrev pub decreases-loop-run : goal.decreases-loop-run
decreases-loop-run g l = l.left
