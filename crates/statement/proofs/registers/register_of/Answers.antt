-- `register_of` meets its contract.
use Rattle.std.proofs.Common.{arith}
use Rattle.statement.proofs.Letters.{no_word, scalar, vector, neither}
use Rattle.statement.proofs.registers.register_of.Goals as goal

pub returns-in_default : goal.returns-in_default
returns-in_default c = no_word c.args.word.now (omega arith)

pub returns-then-c-eq115 : goal.returns-then-c-eq115
returns-then-c-eq115 c = scalar c.args.word.now _ (omega arith) c.if-c-eq115.true c.numbered.ensures

pub returns-then-c-eq118 : goal.returns-then-c-eq118
returns-then-c-eq118 c = vector c.args.word.now _ (omega arith) c.if-c-eq115.false c.if-c-eq118.true c.numbered-then-c-eq118.ensures

pub returns-else-c-eq118 : goal.returns-else-c-eq118
returns-else-c-eq118 c = neither c.args.word.now (omega arith) c.if-c-eq115.false c.if-c-eq118.false
