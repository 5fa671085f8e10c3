-- A bit of a number, and whether it is 1.
use Rattle.std.specs.Prelude.{ℕ, ◌/◌, ◌%◌, ◌^◌, Bool, eqb}

-- bit k of x, counted from 0
abbrev pub bit : ℕ → ℕ → ℕ
bit x k = x / 2 ^ k % 2

abbrev pub is_set : ℕ → ℕ → Bool
is_set x k = eqb (bit x k) 1
