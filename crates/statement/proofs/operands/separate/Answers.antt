-- `separate` meets its contract.
use Rattle.token.proofs.Tokens.{place_read}
use borrow.Author.Tests.{ne_eqb}
use Rattle.statement.proofs.operands.separate.Goals as goal

pub returns-else-f-eq0 : goal.returns-else-f-eq0
returns-else-f-eq0 c = rw (ne_eqb _ 0 c.if-f-eq0.false) (place_read _ _ _ _ c.past_mark.ensures).0
