-- A machine in a saved image, and the machine that an image holds (document 01, "Saved image").
use Rattle.std.specs.Prelude.{ℕ, ◌*◌, ◌/◌, ◌%◌, ◌≤◌, ◌<◌, Bool, true, false, ◌&&◌, List, [], ◌∷◌, ◌++◌, ◌≡◌, length, get_or, take, drop}
use Rattle.answer.specs.Answer.{Answer, given, refused}
use Rattle.answer.specs.Refusal.{register_words}
use Rattle.machine.specs.State.{scalar_index, lane_index}
use Rattle.machine.specs.State.{State, state}
use Rattle.thread_entry.specs.Entry.{zero_thread}
use Rattle.machine.specs.Machine.{with_turns}
use Rattle.machine.specs.WellFormed.{well_formed}
use Rattle.image_layout.specs.Join.{concat_below, all_below}
use Rattle.image_layout.specs.Layout.{of_blocks, row_of, kind_at, Numbered, laid_out, body_in}
use Rattle.little_endian.specs.Numbers.{number_at, number_bytes, bytes_of, words_of}
use Rattle.image_layout.specs.declared.layout.RecordRow.{RecordRow}
use Rattle.image.specs.Fields.{fields, fields_of, thread_of}
use Rattle.image.specs.Types.{Kind, Hd, Ti, Sr, Vr, Mm, Form, Newest, Old, Shape, Machine, Thread, ThreadFields}

-- the shape of an image goes by its form and the length of the memory
abbrev pub shape_of : Form → List ℕ → Shape
shape_of f memory = of_blocks f (length memory / 64)

-- the lengths of the buffers lent to a call that is not refused, of an image of a shape
pub record Lengths (a : Shape) (registers memory : List ℕ) : Type 0 where
  pub room : length registers ≡ register_words
  pub whole : 64 * a.blocks ≡ length memory
  pub few : a.blocks ≤ 1024

-- what the records of a kind ask of them: HD and TI hold the machine record alone
abbrev pub Suits : Shape → Kind → List ℕ → List ℕ → Type 0
Suits a Hd registers memory = Unit {0}
Suits a Ti registers memory = Unit {0}
Suits a Sr registers memory = Lengths a registers memory
Suits a Vr registers memory = Lengths a registers memory
Suits a Mm registers memory = Lengths a registers memory

abbrev pub SuitsUpTo : ℕ → Shape → List ℕ → List ℕ → Type 0
SuitsUpTo n a registers memory = (q : ℕ) → q < n → Suits a (kind_at q) registers memory

-- the place numbers of every record of a row are bytes
abbrev pub AllNumbered : RecordRow → Type 0
AllNumbered r = (i : ℕ) → i < r.count → Numbered r.places i

-- Writing.

-- "status, reason, id, count (0 where not carried)"
abbrev pub status_bytes : ThreadFields → List ℕ
status_bytes n = n.status ∷ n.reason ∷ n.id ∷ n.count ∷ []

-- "TH becomes TI, four bytes longer at its end" (02, T-05); "words .. are little endian"
abbrev pub field_bytes : Form → ThreadFields → List ℕ
field_bytes Newest n = status_bytes n ++ number_bytes 4 n.turns
field_bytes Old n = status_bytes n

-- what stands behind the place numbers of record i of a kind: "HD, last, enabled; eight TH: .. status, reason, id, count ..; eight SR:
-- .. 64 words; 512 VR: .. 16 words; MM for each 64-byte block: .. 64 bytes". Thread t has the records 64t to 64t + 63 of VR.
abbrev pub body_of : Form → State → Kind → ℕ → List ℕ
body_of f s Hd i = s.machine.last ∷ s.machine.enabled ∷ []
body_of f s Ti i = field_bytes f (fields_of (get_or s.machine.threads i zero_thread))
body_of f s Sr i = bytes_of 64 (drop (scalar_index i 0) s.registers)
body_of f s Vr i = bytes_of 16 (drop (lane_index (i / 64) (i % 64) 0) s.registers)
body_of f s Mm i = take 64 (drop (64 * i) s.memory)

-- the image of a machine in a form
unfoldable pub image : Form → State → List ℕ
image f s = laid_out (shape_of f s.memory) (body_of f s)

-- the record, and the machine, that an image of a form holds: "Old images are read with all counts 0." (02, T-05)
abbrev pub held_record : Form → Machine → Machine
held_record Newest m = m
held_record Old m = with_turns m []

abbrev pub held : Form → State → State
held f s = state (held_record f s.machine) s.registers s.memory

-- Reading.

-- the numbers of an entry's bytes: an old entry ends before its count, which then is 0
abbrev pub fields_in : List ℕ → ThreadFields
fields_in body = fields (get_or body 0 0) (get_or body 1 0) (get_or body 2 0) (get_or body 3 0) (number_at 4 body 4)

-- whether numbers are read as an entry, and as which
abbrev pub is_entry : Answer Thread → Bool
is_entry (given thread) = true
is_entry (refused number) = false

abbrev pub entry_or : Answer Thread → Thread
entry_or (given thread) = thread
entry_or (refused number) = zero_thread

unfoldable pub entry_in : Shape → List ℕ → ℕ → Answer Thread
entry_in a l t = thread_of (fields_in (body_in a l Ti t))

unfoldable pub threads_in : Shape → List ℕ → List Thread
threads_in a l = concat_below 8 (λ t. entry_or (entry_in a l t) ∷ [])

-- the machine record that an image of a shape holds, its register file, and its memory
unfoldable pub machine_in : Shape → List ℕ → Machine
machine_in a l =
    record { enabled = get_or (body_in a l Hd 0) 1 0; last = get_or (body_in a l Hd 0) 0 0; threads = threads_in a l }

-- the machine record is well formed, its numbers are in range, and the image fields not carried are 0
unfoldable pub record_in : Shape → List ℕ → Bool
record_in a l = all_below 8 (λ t. is_entry (entry_in a l t)) && well_formed (machine_in a l)

-- the words of every record of a kind, n in each
unfoldable pub words_in : Shape → List ℕ → Kind → ℕ → List ℕ
words_in a l k n = concat_below (row_of a k).count (λ i. words_of n (body_in a l k i))

unfoldable pub registers_in : Shape → List ℕ → List ℕ
registers_in a l = words_in a l Sr 64 ++ words_in a l Vr 16

unfoldable pub memory_in : Shape → List ℕ → List ℕ
memory_in a l = concat_below (row_of a Mm).count (body_in a l Mm)

abbrev pub state_in : Shape → List ℕ → State
state_in a l = state (machine_in a l) (registers_in a l) (memory_in a l)
