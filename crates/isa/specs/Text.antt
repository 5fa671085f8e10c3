-- Text as bytes.
use Rattle.std.specs.Prelude.{ℕ, zero, suc, List, [], ◌∷◌}
use Prim.Native.String.{String, len, char_at}
use Prim.Native.Char.{code}

unfoldable pub bytes_from : ℕ → ℕ → String → List ℕ
bytes_from zero i s = []
bytes_from (suc n) i s = code (char_at s i) ∷ bytes_from n (suc i) s

-- the bytes of a text
unfoldable pub bytes : String → List ℕ
unfolding bytes_from
bytes s = bytes_from (len s) 0 s
