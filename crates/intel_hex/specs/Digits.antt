-- Bytes as pairs of hex digits (document 02, T-06): "hex is upper case".
use Rattle.std.specs.Prelude.{ℕ, ◌+◌, ◌-◌, ◌*◌, ◌/◌, ◌%◌, Bool, ◌&&◌, cond, List, [], ◌∷◌, ltb}
use Rattle.std.proofs.Math.Option.{Option, none, some}
use Rattle.text.specs.Number.{digit}

-- what a digit counts, `0` to `9` and `A` to `F`; 16 for any other byte
unfoldable pub value : ℕ → ℕ
value c = cond (ltb c 48) 16 (cond (ltb c 58) (c - 48) (cond (ltb c 65) 16 (cond (ltb c 71) (c - 55) 16)))

abbrev pub is_hex : ℕ → Bool
is_hex c = ltb (value c) 16

-- the byte that two digits write, the first the higher
abbrev pub pair : ℕ → ℕ → ℕ
pair high low = 16 * value high + value low

abbrev pub with : ℕ → Option (List ℕ) → Option (List ℕ)
with b none = none
with b (some bytes) = some (b ∷ bytes)

-- the bytes that a text of hex digits writes; none where their number is odd or one is no digit
unfoldable pub pairs : List ℕ → Option (List ℕ)
pairs [] = some []
pairs (high ∷ []) = none
pairs (high ∷ low ∷ text) = cond (is_hex high && is_hex low) (with (pair high low) (pairs text)) none

-- the text of bytes
unfoldable pub hexes : List ℕ → List ℕ
hexes [] = []
hexes (b ∷ bytes) = digit (b / 16) ∷ digit (b % 16) ∷ hexes bytes

-- the sum of bytes
unfoldable pub total : List ℕ → ℕ
total [] = 0
total (b ∷ bytes) = b + total bytes
