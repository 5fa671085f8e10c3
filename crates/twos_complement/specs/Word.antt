-- Words, and the signed numbers that they stand for.
use Rattle.std.specs.Prelude.{ℕ, ◌+◌, ◌-◌, ◌^◌, Bool, cond, leb, ℤ, pos}
use Rattle.std.proofs.Math.IntN.{sub_ℕ}

-- whether x, a number of `bits` bits, stands for a negative number: its highest bit is 1
abbrev pub negative : ℕ → ℕ → Bool
negative bits x = leb (2 ^ (bits - 1)) x

-- the place of a word in the signed order of all words, from 0 on: the negative ones come first
abbrev pub rank : ℕ → ℕ
rank x = cond (negative 32 x) (x - 2 ^ 31) (x + 2 ^ 31)

-- the whole number that x, a signed number of `bits` bits, stands for: x, or x - 2^bits where it is negative
abbrev pub value : ℕ → ℕ → ℤ
value bits x = cond (negative bits x) (sub_ℕ x (2 ^ bits)) (pos x)
