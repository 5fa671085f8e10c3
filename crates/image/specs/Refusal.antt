-- Which number of the table a call gives back (document 01, "Numbers given back").
use Rattle.std.specs.Prelude.{ℕ, ◌/◌, Bool, false, ◌&&◌, not, List, [], ◌∷◌, ◌++◌, eqb, length}
use Rattle.std.proofs.Math.Option.{Option}
use Rattle.answer.specs.Answer.{bad-record, bad-image, counts-lost}
use Rattle.answer.specs.Refusal.{Check, check, first_that_applies, size_checks}
use Rattle.machine.specs.Machine.{turns_at}
use Rattle.machine.specs.WellFormed.{well_formed}
use Rattle.image_layout.specs.Join.{all_below}
use Rattle.image_layout.specs.Layout.{fixed_of, form_of, of_blocks, heads_in}
use Rattle.image.specs.Image.{record_in}
use Rattle.image.specs.Types.{Form, Newest, Old, Shape, Machine}

-- "11, old form asked for, a count not 0, dropping not allowed" (02, T-05)
unfoldable pub no_counts : Machine → Bool
no_counts m = all_below 8 (λ t. eqb (turns_at m t) 0)

abbrev pub loses_counts : Form → Bool → Machine → Bool
loses_counts Newest dropping m = false
loses_counts Old dropping m = not dropping && not (no_counts m)

-- of a record that is to be written in a form: 11 "comes after 9 and 4"
abbrev pub write_checks : Form → Bool → Machine → List Check
write_checks f dropping m = check bad-record (not (well_formed m)) ∷ check counts-lost (loses_counts f dropping m) ∷ []

unfoldable pub record_number : Form → Bool → Machine → Option ℕ
record_number f dropping m = first_that_applies (write_checks f dropping m)

-- "The writer's buffer has exactly the image's length (else 9).": with a record
unfoldable pub write_number : Form → Bool → ℕ → ℕ → ℕ → Machine → Option ℕ
write_number f dropping room bytes size m = first_that_applies (size_checks (fixed_of f) room bytes size ++ write_checks f dropping m)

-- what is checked of content: 10 over the whole of it before any 4
abbrev pub content_checks : Bool → Bool → List Check
content_checks heads accepted = check bad-image (not heads) ∷ check bad-record (not accepted) ∷ []

unfoldable pub content_number : Bool → Bool → Option ℕ
content_number heads accepted = first_that_applies (content_checks heads accepted)

-- of an image
abbrev pub record_checks : Shape → List ℕ → List Check
record_checks s l = content_checks (heads_in s l) (record_in s l)

unfoldable pub records_number : Shape → List ℕ → Option ℕ
records_number s l = first_that_applies (record_checks s l)

-- of an image in a form, read into a register file of so many words and a memory of so many bytes
unfoldable pub read_number_in : Form → List ℕ → ℕ → ℕ → Option ℕ
read_number_in f l room bytes = first_that_applies (size_checks (fixed_of f) room bytes (length l) ++ record_checks (of_blocks f (bytes / 64)) l)

-- in the form that its length says
abbrev pub read_number : List ℕ → ℕ → ℕ → Option ℕ
read_number l room bytes = read_number_in (form_of (length l)) l room bytes
