-- A number as an argument gives it: decimal digits and nothing else, at most 4,294,967,295.
use Rattle.std.specs.Prelude.{ℕ, ◌+◌, ◌-◌, ◌*◌, Bool, ◌||◌, cond, List, [], ◌∷◌, ltb, Some, None}
use Rattle.std.specs.Prelude as R
use Rattle.std.proofs.Math.Option.{Option, none, some}

-- what an argument is read as, as the code says it
abbrev pub given : R.Option ℕ → Option ℕ
given (Some n) = some n
given None = none

-- whether a byte is no digit, `0` to `9`
abbrev pub no_digit : ℕ → Bool
no_digit byte = ltb byte 48 || ltb 57 byte

-- a number that is not too large
abbrev pub small : ℕ → Option ℕ
small n = cond (ltb 0xFFFFFFFF n) none (some n)

-- one more digit behind what was read
abbrev pub with_digit : Option ℕ → ℕ → Option ℕ
with_digit none byte = none
with_digit (some n) byte = cond (no_digit byte) none (small (10 * n + (byte - 48)))

-- digits read one by one
unfoldable pub with_digits : Option ℕ → List ℕ → Option ℕ
with_digits before [] = before
with_digits before (byte ∷ text) = with_digits (with_digit before byte) text

-- at least one digit
abbrev pub number : List ℕ → Option ℕ
number [] = none
number (byte ∷ text) = with_digits (some 0) (byte ∷ text)
