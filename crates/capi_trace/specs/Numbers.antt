-- Rows as numbers (include/korvammel.h): thread, address, word, status, reason, id and count, 0 where the status does not carry them.
use Rattle.std.specs.Prelude.{ℕ, ◌+◌, ◌*◌, List, [], ◌∷◌, ◌++◌, set}
use Rattle.image.specs.Fields.{status_fields}
use Rattle.thread_entry.specs.declared.status.Status.{Status}
use Rattle.trace.specs.declared.row.Row.{Row}

-- a status and what it carries, as in a saved image
abbrev pub status_numbers : Status → List ℕ
status_numbers s = (status_fields s 0).status ∷ (status_fields s 0).reason ∷ (status_fields s 0).id ∷ (status_fields s 0).count ∷ []

unfoldable pub numbers_of : Row → List ℕ
numbers_of r = r.thread ∷ r.address ∷ r.word ∷ status_numbers r.status

unfoldable pub all_numbers : List Row → List ℕ
all_numbers [] = []
all_numbers (r ∷ rs) = numbers_of r ++ all_numbers rs

-- numbers put one behind the other, from a place on
unfoldable pub put_all : List ℕ → ℕ → List ℕ → List ℕ
put_all l at [] = l
put_all l at (x ∷ xs) = put_all (set l at x) (at + 1) xs

-- a row's numbers in its place, and rows from a place on
unfoldable pub put_row : List ℕ → ℕ → Row → List ℕ
put_row l at r = put_all l (7 * at) (numbers_of r)

unfoldable pub put_rows : List ℕ → ℕ → List Row → List ℕ
put_rows l at [] = l
put_rows l at (r ∷ rs) = put_rows (put_row l at r) (at + 1) rs
