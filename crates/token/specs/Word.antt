-- The cases of the code's answers about words.
use Rattle.std.specs.Prelude.{ℕ, ◌+◌, cond, ltb, Some, None}
use Rattle.std.specs.Prelude as code
use Rattle.std.proofs.Math.Option.{Option, none, some}
use Rattle.token.specs.Number.{limit}

-- a number, or one more than the limit for every larger one
unfoldable pub cap : ℕ → ℕ
cap n = cond (ltb limit n) (limit + 1) n

abbrev pub capped : Option ℕ → Option ℕ
capped none = none
capped (some n) = some (cap n)

abbrev pub numbered : code.Option ℕ → Option ℕ
numbered (Some n) = some n
numbered None = none
