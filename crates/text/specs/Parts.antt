-- Text put together from parts.
use Rattle.std.specs.Prelude.{ℕ, List, [], ◌∷◌, ◌++◌}
use Rattle.text.specs.Buffer.{Wrote, puts}

-- the parts, one behind the other
unfoldable pub concat : List (List ℕ) → List ℕ
concat [] = []
concat (part ∷ parts) = part ++ concat parts

-- the parts put into a buffer, each where the last one ended
abbrev pub puts_all : Wrote → List (List ℕ) → Wrote
puts_all w [] = w
puts_all w (part ∷ parts) = puts_all (puts w part) parts
