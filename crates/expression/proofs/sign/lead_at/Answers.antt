use Rattle.std.proofs.Common.{arith, eq-eqb}
use borrow.Author.Tests.{ne_eqb}
use Rattle.token.proofs.Tokens.{token-read}
use Rattle.expression.proofs.Tokens.{no_lead}
use Rattle.expression.proofs.sign.lead_at.Goals as goal

pub returns-in-End : goal.returns-in-End
returns-in-End c = record {
  lead = no_lead c.args.line.now c.args.at c.token_at.result (token-read _ _ _ c.token_at.ensures).0 c.in-End.is;
  onward = omega arith;
}

pub returns-then-c-eq45 : goal.returns-then-c-eq45
returns-then-c-eq45 c = record {
  lead = rw ((token-read _ _ _ c.in-Mark.ensures).0, eq-eqb _ 45 c.if-c-eq45.true);
  onward = omega (arith, (token-read _ _ _ c.in-Mark.ensures).1.0.0);
}

pub returns-else-c-eq45 : goal.returns-else-c-eq45
returns-else-c-eq45 c = record {
  lead = rw ((token-read _ _ _ c.in-Mark.ensures).0, ne_eqb _ 45 c.if-c-eq45.false);
  onward = omega arith;
}
