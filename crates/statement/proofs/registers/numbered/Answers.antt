-- `numbered` meets its contract.
use Rattle.std.proofs.Common.{sym, ◌∙◌}
use Rattle.statement.proofs.Digits.{fits, register-by}
use Rattle.statement.proofs.registers.numbered.Goals as goal

pub returns-then-one-two : goal.returns-then-one-two
unfolding fits
returns-then-one-two c = sym (register-by c.args.vector c.args.digits.now c.in_ok-n.n c.in_ok-n.ensures ∙ rw c.if-one-two.true)

pub returns-else-one-two : goal.returns-else-one-two
unfolding fits
returns-else-one-two c = sym (register-by c.args.vector c.args.digits.now c.in_ok-n.n c.in_ok-n.ensures ∙ rw c.if-one-two.false)
