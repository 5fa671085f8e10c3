-- Numbers as text.
use Rattle.std.specs.Prelude.{ℕ, zero, suc, ◌+◌, ◌/◌, ◌%◌, cond, List, [], ◌∷◌, ◌++◌, ltb}

-- the digit of a number below 16: `0` to `9`, then `A` to `F`
abbrev pub digit : ℕ → ℕ
digit n = cond (ltb n 10) (48 + n) (55 + n)

-- the last k digits of n in a base, the most significant first
abbrev pub digits : ℕ → ℕ → ℕ → List ℕ
digits base zero n = []
digits base (suc k) n = digits base k (n / base) ++ digit (n % base) ∷ []

-- "upper-case hex": a number of 32 bits
abbrev pub hex : ℕ → List ℕ
hex n = digits 16 8 n

-- a number in decimal, of at most so many digits: below ten its digit, else its tenth and its last digit
abbrev pub decimal_in : ℕ → ℕ → List ℕ
decimal_in zero n = []
decimal_in (suc k) n = cond (ltb n 10) ((48 + n) ∷ []) (decimal_in k (n / 10) ++ (48 + n % 10) ∷ [])

-- "in decimal": a number of 32 bits has at most ten digits
unfoldable pub decimal : ℕ → List ℕ
decimal n = decimal_in 10 n

-- and one of 64 bits at most twenty
unfoldable pub decimal_long : ℕ → List ℕ
decimal_long n = decimal_in 20 n
