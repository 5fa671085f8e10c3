use Rattle.std.proofs.Common.{arith}
use Rattle.token.proofs.Runs.{blanks_short, blank-ends}
use Rattle.token.proofs.token.past_blanks.Goals as goal

pub overflow_add-result : goal.overflow_add-result
overflow_add-result c = omega (arith, c.in-Some.ensures, blanks_short c.in-Some.rest.now)

pub returns-in-None : goal.returns-in-None
returns-in-None c = blank-ends c.args.line.now c.args.at (omega (arith, c.in-None.ensures.lookup))
