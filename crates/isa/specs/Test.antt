-- Tests: several taken together, and a number looked for in a list.
use Rattle.std.specs.Prelude.{ℕ, ◌+◌, ◌%◌, ◌^◌, Bool, true, false, ◌&&◌, ◌||◌, List, [], ◌∷◌, ◌==◌, nat_lt}
use Rattle.bits.specs.Bit.{is_set}

unfoldable pub all_from : Bool → List Bool → Bool
all_from a [] = a
all_from a (b ∷ bs) = all_from (a && b) bs

-- every test of the list passes
unfoldable pub all : List Bool → Bool
unfolding all_from
all [] = true
all (b ∷ bs) = all_from b bs

abbrev pub is_in_from : Bool → ℕ → List ℕ → Bool
is_in_from t n [] = t
is_in_from t n (x ∷ xs) = is_in_from (t || n == x) n xs

-- a number stands in the list
abbrev pub is_in : ℕ → List ℕ → Bool
is_in n [] = false
is_in n (x ∷ xs) = is_in_from (n == x) n xs

-- numbers below 8 as a set: bit f of it for the number f
abbrev pub set_of : List ℕ → ℕ
set_of [] = 0
set_of (x ∷ xs) = 2 ^ x + set_of xs

abbrev pub in_set : ℕ → ℕ → Bool
in_set set f = nat_lt f 8 && is_set set (f % 8)
