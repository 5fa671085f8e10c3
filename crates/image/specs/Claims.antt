-- What is proved of the definitions, for other crates to cite.
use Rattle.std.specs.Prelude.{ℕ, ◌<◌, Bool, true, false, ◌&&◌, List, ◌↔◌, ◌≡◌, length, get_or, take}
use Rattle.std.proofs.Math.Option.{none}
use Rattle.answer.specs.Answer.{given}
use Rattle.answer.specs.Refusal.{register_words, bad_memory, fixed_part, old_fixed_part, image_length, bad_length}
use Rattle.machine.specs.State.{State}
use Rattle.machine.specs.Machine.{turns_of}
use Rattle.machine.specs.WellFormed.{well_formed}
use Rattle.image_layout.specs.Layout.{fixed_of, form_of, kinds, row_of, order_of, start_of, body_in}
use Rattle.image.specs.Calls.{writing, write_as, write, write_old, reading, read}
use Rattle.image.specs.Fields.{fields_of, thread_of}
use Rattle.image.specs.Image.{shape_of, body_of, image, held}
use Rattle.image.specs.Opening.{record_bytes, record_length, opened, read_opening}
use Rattle.image.specs.Types.{Kind, Hd, Ti, Sr, Vr, Mm, Form, Newest, Old, Machine, Thread, ThreadFields}

-- every number of a list is a word, or a byte: what a lent slice of them says by its type
abbrev pub Words : List ℕ → Type 0
Words l = (n : ℕ) → get_or l n 0 < 4294967296

abbrev pub Bytes : List ℕ → Type 0
Bytes l = (n : ℕ) → get_or l n 0 < 256

-- a state that a writer takes
pub record Writable (s : State) : Type 0 where
  pub room : length s.registers ≡ register_words
  pub words : Words s.registers
  pub counts : Words (turns_of s.machine)
  pub memory : bad_memory (length s.memory) ≡ false
  pub well-formed : well_formed s.machine ≡ true

-- The layout.

-- where the kinds begin in a form, one after the other, and where the last ends: "36,948 + 68 x (memory length / 64)"
pub record Beginnings (f : Form) (scalars vectors : ℕ) (memory : List ℕ) : Type 0 where
  pub hd : start_of (shape_of f memory) (order_of Hd) ≡ 0
  pub ti : start_of (shape_of f memory) (order_of Ti) ≡ 4
  pub sr : start_of (shape_of f memory) (order_of Sr) ≡ scalars
  pub vr : start_of (shape_of f memory) (order_of Vr) ≡ vectors
  pub mm : start_of (shape_of f memory) (order_of Mm) ≡ fixed_of f
  pub end : start_of (shape_of f memory) kinds ≡ image_length (fixed_of f) (length memory)

abbrev pub Begins : Type 0
Begins = (memory : List ℕ) → Beginnings Newest record_length 2164 memory × Beginnings Old 60 2132 memory

-- "Refusal 9 knows both lengths": it is given exactly where a length is neither
abbrev pub KnowsBothLengths : Type 0
KnowsBothLengths = (bytes size : ℕ) → bad_length (fixed_of (form_of size)) bytes size ≡ (bad_length fixed_part bytes size && bad_length old_fixed_part bytes size)

-- what a record holds stands at its fixed place
abbrev pub Placed : Type 0
Placed = (f : Form) (s : State) → Writable s → (k : Kind) (i : ℕ) → i < (row_of (shape_of f s.memory) k).count
    → body_in (shape_of f s.memory) (image f s) k i ≡ body_of f s k i

-- the bytes of the machine record alone are those that its image opens with
abbrev pub OpensWith : Type 0
OpensWith = (s : State) → take record_length (image Newest s) ≡ record_bytes s.machine

-- Both ways.

-- the bytes of a well-formed machine record are read as that record
abbrev pub RecordAgain : Type 0
RecordAgain = (m : Machine) → well_formed m ≡ true → Words (turns_of m) → read_opening (record_bytes m) ≡ opened none m

-- numbers are read as an entry exactly if they are its own
abbrev pub Exact : Type 0
Exact = (f : ThreadFields) (e : Thread) → (thread_of f ≡ given e) ↔ (fields_of e ≡ f)

-- "Writing then reading gives the same machine": in each form, for every state that the writer accepts without dropping a count,
-- whatever the buffers read into held
abbrev pub WrittenThenRead : Type 0
WrittenThenRead = (f : Form) (s : State) (buffer registers memory : List ℕ) → Words s.registers → Words (turns_of s.machine)
    → (write_as f false s buffer).answer ≡ given tt
    → length registers ≡ length s.registers → length memory ≡ length s.memory
    → read (write_as f false s buffer).buffer registers memory ≡ reading (given tt) s

-- "save that dropped counts read back as 0" (02, T-05)
abbrev pub DroppedThenRead : Type 0
DroppedThenRead = (s : State) (buffer registers memory : List ℕ) → Words s.registers → Words (turns_of s.machine)
    → (write_old true s buffer).answer ≡ given tt
    → length registers ≡ length s.registers → length memory ≡ length s.memory
    → read (write_old true s buffer).buffer registers memory ≡ reading (given tt) (held Old s)

-- "and reading then writing an accepted image the same bytes": in its form, whether or not dropping is allowed
abbrev pub ReadThenWritten : Type 0
ReadThenWritten = (dropping : Bool) (l registers memory buffer : List ℕ) → Bytes l → (read l registers memory).answer ≡ given tt
    → length buffer ≡ length l
    → write_as (form_of (length l)) dropping (read l registers memory).left buffer ≡ writing (given tt) l

-- l is the image in a form of such a state with a memory of so many bytes
pub record ImageOf (l : List ℕ) (bytes : ℕ) : Type 0 where
  pub form : Form
  pub saved : State
  pub sound : Writable saved
  pub size : length saved.memory ≡ bytes
  pub same : image form saved ≡ l

-- the reader accepts exactly the images of well-formed states, in both forms, of memories as long as the one lent
abbrev pub ReadsExactly : Type 0
ReadsExactly = (l registers memory : List ℕ) → Bytes l
    → ((read l registers memory).answer ≡ given tt) ↔ ((length registers ≡ register_words) × ImageOf l (length memory))

-- "old to new to old gives the first bytes": an accepted image of the old form is read and written in the newest, and that is read and
-- written in the old one, whatever the buffers held
abbrev pub OldToNewToOld : Type 0
OldToNewToOld = (l registers memory newest others bytes buffer : List ℕ) → Bytes l → (read l registers memory).answer ≡ given tt
    → form_of (length l) ≡ Old → length newest ≡ image_length fixed_part (length memory)
    → length others ≡ register_words → length bytes ≡ length memory → length buffer ≡ length l
    → write_old false (read (write (read l registers memory).left newest).buffer others bytes).left buffer ≡ writing (given tt) l
