-- Which number of the table a call gives back, where it takes a machine record as bytes (document 01, "Numbers given back").
use Rattle.std.specs.Prelude.{ℕ, Bool, List, [], ◌∷◌, ◌++◌, length}
use Rattle.std.proofs.Math.Option.{Option}
use Rattle.answer.specs.Answer.{counts-lost}
use Rattle.answer.specs.Refusal.{Check, check, first_that_applies, length_checks, size_checks}
use Rattle.image_layout.specs.Layout.{fixed_of}
use Rattle.image_layout.specs.declared.layout.Form.{Form}
use Rattle.image.specs.Image.{machine_in}
use Rattle.image.specs.Opening.{no_blocks, opening_checks}
use Rattle.image.specs.Refusal.{loses_counts}

-- "A call checks in the order 1, 2, 3, 5, 9, 10, 4": a run takes a program, a register file, a memory, and a record's bytes
unfoldable pub run_number : List ℕ → List ℕ → List ℕ → List ℕ → Option ℕ
run_number program registers memory opening =
    first_that_applies (length_checks (length program) (length registers) (length memory) ++ opening_checks opening)

-- an image's writing takes no program, and a buffer, whose length goes by the fixed part of the form
abbrev pub record_checks : ℕ → ℕ → ℕ → ℕ → List ℕ → List Check
record_checks fixed registers bytes size opening = size_checks fixed registers bytes size ++ opening_checks opening

-- "11, old form asked for, a count not 0, dropping not allowed; it comes after 9 and 4." (02, T-05)
abbrev pub loss_checks : Form → Bool → List ℕ → List Check
loss_checks f dropping opening = check counts-lost (loses_counts f dropping (machine_in no_blocks opening)) ∷ []

unfoldable pub write_number : Form → Bool → List ℕ → List ℕ → List ℕ → List ℕ → Option ℕ
write_number f dropping registers memory opening buffer =
    first_that_applies (record_checks (fixed_of f) (length registers) (length memory) (length buffer) opening ++ loss_checks f dropping opening)
