-- `scalar::integer_unary` meets its contract: what the library counts is what the definition counts.
use Rattle.std.proofs.Common.{rules}
use Rattle.alu.proofs.Counts.{zeros-above, zeros-below}
use Rattle.alu.proofs.scalar.integer_unary.Goals as goal

pub returns-in-Clz : goal.returns-in-Clz
returns-in-Clz c = rw c.in-Clz.is (zeros-above 32 c.args.x (search rules))

pub returns-in-Ctz : goal.returns-in-Ctz
returns-in-Ctz c = rw c.in-Ctz.is (zeros-below 32 c.args.x)
