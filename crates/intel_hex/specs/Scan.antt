-- What the code keeps of a record, and of a file read so far.
use Rattle.std.specs.Prelude.{ℕ, suc, ◌+◌, ◌*◌, ◌/◌, ◌%◌, Bool, true, false, ◌&&◌, not, cond, List, [], ◌∷◌, ◌≡◌, eqb, length, Option, Some, None, Result, Ok, Err}
use Rattle.std.proofs.Math.Option.{Option as Given, none, some}
use Rattle.answer.specs.Refusal.{row_of}
use Rattle.answer.specs.declared.refusal.Refusal.{Refusal}
use Rattle.answer.specs.declared.refusal.Refusal.TheVariants.{HexRecord, HexOrder}
use Rattle.answer.specs.declared.refusal.RefusedLine.{RefusedLine}
use Rattle.intel_hex.specs.Digits.{pairs, total}
use Rattle.intel_hex.specs.File.{Image, image, no_image, misplaced}
use Rattle.intel_hex.specs.Record.{Record, no_record, data_record, upper_record, end_record, fields_of}
use Rattle.intel_hex.specs.Types.{Heading, Data, Base, End, Cursor}

-- a record without its data bytes
abbrev pub heading : Record → Option Heading
heading no_record = None
heading (data_record address bytes) = Some (Data address (length bytes))
heading (upper_record upper) = Some (Base upper)
heading end_record = Some End

-- the sum of bytes, added to a sum
abbrev pub digested : ℕ → Given (List ℕ) → Option ℕ
digested sum none = None
digested sum (some bytes) = Some ((sum + total bytes) % 256)

-- what a type, an address, a length byte and the upper half that the data may say make
unfoldable pub heading_at : ℕ → ℕ → ℕ → ℕ → Option Heading
heading_at type address n upper =
    cond (eqb type 0 && not (eqb n 0)) (Some (Data address n))
    (cond (eqb type 1 && eqb address 0 && eqb n 0) (Some End)
    (cond (eqb type 4 && eqb address 0 && eqb n 2) (Some (Base upper)) None))

-- what is read of digits of which the bytes' sum is known
abbrev pub FieldsRead : List ℕ → ℕ → Option Heading → Type 0
FieldsRead digits sum h = (bytes : List ℕ) → pairs digits ≡ some bytes → sum ≡ total bytes % 256 → h ≡ heading (fields_of bytes)

-- how long a text is up to its first LF
unfoldable pub line_length : List ℕ → ℕ
line_length [] = 0
line_length (c ∷ text) = cond (eqb c 10) 0 (suc (line_length text))

abbrev pub cursor : ℕ → ℕ → Bool → Cursor
cursor upper top ended = record { upper = upper; top = top; ended = ended }

-- one record more, before the end record
unfoldable pub advanced : Cursor → Option Heading → Result Cursor Refusal
advanced c None = Err HexRecord
advanced c (Some End) = Ok (cursor c.upper c.top true)
advanced c (Some (Base upper)) = Ok (cursor upper c.top false)
advanced c (Some (Data address n)) =
    cond (misplaced c.top c.upper address n) (Err HexOrder)
    (Ok (cursor c.upper (65536 * c.upper + address + n) false))

-- an image without its bytes: their number, or a refusal's number and its line
pub data Judged : Type 0 where
  Bytes : ℕ → Judged
  Refused : ℕ → ℕ → Judged

abbrev pub judged : Image → Judged
judged (image bytes) = Bytes (length bytes)
judged (no_image number n) = Refused number n

-- the same of the code's answer
abbrev pub judgement : Result ℕ RefusedLine → Judged
judgement (Ok n) = Bytes n
judgement (Err refused) = Refused (row_of refused.refusal) refused.line

-- how long the text of so many words is: 12 bytes a record, the end record too, and two for each of four bytes a word
abbrev pub text_length : ℕ → ℕ
text_length words = 12 * ((words + 3) / 4) + 8 * words + 12
