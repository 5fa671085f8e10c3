use Rattle.std.proofs.Common.{◌-◌, ◌+◌, ◌*◌, length}
use Rattle.expression.proofs.expression.+sum_term.Given as goal

abbrev pub decreases-sum : goal.decreases-sum
decreases-sum l = 2 * (length l.line.now - l.at) + 1

abbrev pub decreases-term : goal.decreases-term
decreases-term l = 2 * (length l.line.now - l.at)
