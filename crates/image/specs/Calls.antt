-- What the calls hand back and leave (document 01, "Numbers given back" and "Saved image").
use Rattle.std.specs.Prelude.{ℕ, Bool, false, List, Result, Ok, Err, length}
use Rattle.std.proofs.Math.Option.{Option}
use Rattle.answer.specs.Answer.{Answer, given, refused}
use Rattle.answer.specs.Refusal.{row_of, refused_or}
use Rattle.answer.specs.declared.refusal.Refusal.{Refusal}
use Rattle.machine.specs.State.{State, state}
use Rattle.machine.specs.Machine.{zeroed}
use Rattle.image_layout.specs.Layout.{form_of}
use Rattle.image.specs.Answer.{answered}
use Rattle.image.specs.Image.{shape_of, image, state_in}
use Rattle.image.specs.Refusal.{write_number, read_number}
use Rattle.image.specs.Types.{Form, Newest, Old, Shape, Machine}

-- Writing: the answer, and the buffer left.

pub record WriteResult : Type 0 where
  pub answer : Answer (Unit {0})
  pub buffer : List ℕ

abbrev pub writing : Answer (Unit {0}) → List ℕ → WriteResult
writing answer buffer = record { answer = answer; buffer = buffer }

abbrev pub written : Result (Unit {0}) Refusal → List ℕ → WriteResult
written r buffer = writing (answered r) buffer

-- the number that the table gives the writing of a state into a buffer, in a form, with or without dropping allowed
abbrev pub write_refusal : Form → Bool → State → List ℕ → Option ℕ
write_refusal f dropping s buffer = write_number f dropping (length s.registers) (length s.memory) (length buffer) s.machine

-- "A refusal changes no lent buffer"
unfoldable pub write_as : Form → Bool → State → List ℕ → WriteResult
write_as f dropping s buffer =
    refused_or (write_refusal f dropping s buffer) (λ number. writing (refused number) buffer) (writing (given tt) (image f s))

-- the newest form, which holds every count; and "The old form can be written back, with counts 0 unless the caller allows dropping them."
abbrev pub write : State → List ℕ → WriteResult
write s buffer = write_as Newest false s buffer

abbrev pub write_old : Bool → State → List ℕ → WriteResult
write_old dropping s buffer = write_as Old dropping s buffer

-- Reading: the answer, and the machine handed back and left.

pub record ReadResult : Type 0 where
  pub answer : Answer (Unit {0})
  pub left : State

abbrev pub reading : Answer (Unit {0}) → State → ReadResult
reading answer left = record { answer = answer; left = left }

-- a refusal hands back no machine: the record then has every number 0
abbrev pub restored : Result Machine Refusal → List ℕ → List ℕ → ReadResult
restored (Ok m) registers memory = reading (given tt) (state m registers memory)
restored (Err refusal) registers memory = reading (refused (row_of refusal)) (state zeroed registers memory)

-- the number that the table gives the reading of an image into a register file and a memory
abbrev pub read_refusal : List ℕ → List ℕ → List ℕ → Option ℕ
read_refusal l registers memory = read_number l (length registers) (length memory)

-- "A refusal changes no lent buffer .. start and image reading, which get none, hand back a record with every number 0."
abbrev pub read_by : Option ℕ → Shape → List ℕ → List ℕ → List ℕ → ReadResult
read_by number a l registers memory =
    refused_or number (λ n. reading (refused n) (state zeroed registers memory)) (reading (given tt) (state_in a l))

-- "Refusal 9 knows both lengths": the form is the one that the length says
unfoldable pub read : List ℕ → List ℕ → List ℕ → ReadResult
read l registers memory = read_by (read_refusal l registers memory) (shape_of (form_of (length l)) memory) l registers memory
