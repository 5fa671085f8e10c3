-- Which words may be labels.
use Rattle.std.specs.Prelude.{ℕ, Bool, true, ◌&&◌, List, [], ◌∷◌, leb, length}
use Rattle.token.specs.Byte.{is_letter}

-- "labels of 1 to 16 letters"
unfoldable pub all_letters : List ℕ → Bool
all_letters [] = true
all_letters (c ∷ cs) = is_letter c && all_letters cs

abbrev pub is_label : List ℕ → Bool
is_label w = all_letters w && (leb 1 (length w) && leb (length w) 16)
