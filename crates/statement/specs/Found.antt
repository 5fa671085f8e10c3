-- The cases of the code's answers about registers.
use Rattle.std.specs.Prelude.{List, ℕ, drop, Some, None}
use Rattle.std.specs.Prelude as code
use Rattle.std.proofs.Math.Option.{Option, none, some}
use Rattle.expression.specs.Grammar.{Parse, parse}
use Rattle.token.specs.Token.{tokens}
use Rattle.statement.specs.Types.{Register}

abbrev pub register_in : code.Option Register → Option Register
register_in (Some r) = some r
register_in None = none

abbrev pub register_found : List ℕ → code.Option (Register × ℕ) → Option (Parse Register)
register_found line (Some (r, next)) = parse r (tokens (drop next line))
register_found line None = none
