-- `bracket_at` meets its contract.
use Rattle.token.proofs.Tokens.{place_read}
use Rattle.statement.proofs.registers.bracket_at.Goals as goal

pub returns-in_err-inside : goal.returns-in_err-inside
returns-in_err-inside c = rw (c.from_residual.ensures, ← (place_read _ _ _ _ c.in_err-inside.ensures).0)

pub returns-in_err-r : goal.returns-in_err-r
returns-in_err-r c = rw (c.from_residual-in_err-r.ensures, ← (place_read _ _ _ _ c.in_ok-inside.ensures).0, ← c.in_err-r.ensures)

pub returns-in_err-after : goal.returns-in_err-after
returns-in_err-after c = rw (c.from_residual-in_err-after.ensures, ← (place_read _ _ _ _ c.in_ok-inside.ensures).0, ← c.in_ok-r.ensures, ← (place_read _ _ _ _ c.in_err-after.ensures).0)

pub returns : goal.returns
returns c = rw (← (place_read _ _ _ _ c.in_ok-inside.ensures).0, ← c.in_ok-r.ensures, ← (place_read _ _ _ _ c.in_ok-after.ensures).0)
