use Rattle.token.proofs.Tokens.{place_read}
use Rattle.expression.proofs.expression.close.Goals as goal

pub returns-in_err-next-clause-read : goal.returns-in_err-next-clause-read
returns-in_err-next-clause-read c = rw (c.from_residual-in_err-next.ensures, c.in_ok-value.was, ← (place_read _ _ _ _ c.in_err-next.ensures).0)

pub returns-clause-read : goal.returns-clause-read
returns-clause-read c = rw (c.in_ok-value.was, ← (place_read _ _ _ _ c.in_ok-next.ensures).0, c.nest.ensures.value)

pub returns-clause-ahead : goal.returns-clause-ahead
returns-clause-ahead c =
    let place = (place_read _ _ _ _ c.in_ok-next.ensures).1 in
    rw c.in_ok-value.was (place.0, place.1, c.nest.ensures.held)
