-- The machine record alone, in the bytes that an image opens with: HD, and eight TI (document 01, "Saved image"; 02, T-05).
use Rattle.std.specs.Prelude.{ℕ, List, [], Result, Ok, Err}
use Rattle.std.proofs.Math.Option.{Option, none, some}
use Rattle.answer.specs.Refusal.{Check, first_that_applies, row_of, refused_or}
use Rattle.answer.specs.declared.refusal.Refusal.{Refusal}
use Rattle.machine.specs.State.{state}
use Rattle.machine.specs.Machine.{zeroed}
use Rattle.image_layout.specs.Layout.{of_blocks, record_kinds, laid_up_to, heads_up_to}
use Rattle.image.specs.Image.{body_of, machine_in, record_in}
use Rattle.image.specs.Refusal.{content_checks}
use Rattle.image.specs.Types.{Newest, Shape, Machine}

-- HD and TI of the newest form, which are the same for every memory
abbrev pub no_blocks : Shape
no_blocks = of_blocks Newest 0

-- the bytes of a machine record, and how many they are
unfoldable pub record_bytes : Machine → List ℕ
record_bytes m = laid_up_to record_kinds no_blocks (body_of Newest (state m [] []))

abbrev pub record_length : ℕ
record_length = 92

-- what is checked of such bytes: as of the image that opens with them
abbrev pub opening_checks : List ℕ → List Check
opening_checks l = content_checks (heads_up_to record_kinds no_blocks l) (record_in no_blocks l)

unfoldable pub opening_number : List ℕ → Option ℕ
opening_number l = first_that_applies (opening_checks l)

-- the number that the table gives such bytes, and the record: with every number 0 where there is one
pub record Opening : Type 0 where
  pub number : Option ℕ
  pub machine : Machine

abbrev pub opened : Option ℕ → Machine → Opening
opened number m = record { number = number; machine = m }

-- a refusal hands back no machine: the record then has every number 0
abbrev pub judged : Result Machine Refusal → Opening
judged (Ok m) = opened none m
judged (Err refusal) = opened (some (row_of refusal)) zeroed

unfoldable pub read_opening : List ℕ → Opening
read_opening l = opened (opening_number l) (refused_or (opening_number l) (λ n. zeroed) (machine_in no_blocks l))
