-- `count_rounds` meets its contract: so far the counts of the threads passed are right, and the others as they were.
use Rattle.std.proofs.Common.{◌≡◌}
use Rattle.machine.proofs.Loops.{changed}
use Rattle.turn_counts.proofs.Counting.{with}
use Rattle.turn_counts.proofs.rounds.count_rounds.Given as goal

abbrev pub invariant-loop-thread : goal.invariant-loop-thread
invariant-loop-thread l = l.has-items ≡ changed (with l.machine l.passed) l.fn.turns l.thread
