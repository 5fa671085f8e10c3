-- Numbers: "decimal or 0x numbers", of any length.
use Rattle.std.specs.Prelude.{ℕ, ◌+◌, ◌*◌, ◌^◌, Bool, ◌&&◌, cond, List, [], ◌∷◌, eqb, ltb, drop, get_or}
use Rattle.std.proofs.Math.Option.{Option, none, some}
use Rattle.token.specs.Byte.{digit}

-- digits of a base behind a number
unfoldable pub digits_on : ℕ → ℕ → List ℕ → Option ℕ
digits_on base n [] = some n
digits_on base n (c ∷ cs) = cond (ltb (digit c) base) (digits_on base (n * base + digit c) cs) none

-- at least one digit of a base
unfoldable pub numeral : ℕ → List ℕ → Option ℕ
numeral base [] = none
numeral base (c ∷ cs) = digits_on base 0 (c ∷ cs)

-- "Case counts except in hex digits": the x is small
abbrev pub is_hex : List ℕ → Bool
is_hex w = eqb (get_or w 0 0) 48 && eqb (get_or w 1 0) 120

-- the number that a word is, if it is one
unfoldable pub number : List ℕ → Option ℕ
number w = cond (is_hex w) (numeral 16 (drop 2 w)) (numeral 10 w)

-- "within plus or minus 2^31"
abbrev pub limit : ℕ
limit = 2 ^ 31
