-- What a call has of its lengths and its record where the table gives it no number, and what it then gives.
use Prim.Native.Nat.{ℕ, ◌*◌, ◌/◌, ◌%◌, ◌≤◌}
use mathlib.Core.Bool.{Bool, true, false, ◌||◌, not}
use mathlib.Core.List.{List}
use mathlib.Core.Option.{Option, none, some}
use mathlib.Core.Path.{◌≡◌, refl, sym, ap, ◌∙◌}
use Rattle.std.proofs.Common.{Result, Ok, Err}
use native.Mathlib.Omega.{arith}
use borrow.Author.Tests.{eqb-true, eq-eqb, not-false}
use lib.Dec.{ltb, eqb}
use lib.ListN.{length}
use Rattle.answer.specs.Answer.{given, refused}
use Rattle.answer.proofs.Checks.{passed, first-after, either-given}
use Rattle.answer.proofs.Lengths.{memory_most}
use Rattle.answer.specs.declared.refusal.Refusal.{Refusal}
use Rattle.answer.specs.declared.refusal.Refusal.TheVariants as V
use Rattle.answer.specs.Refusal.{row_of, bad_registers, bad_memory, image_length, bad_length, first_that_applies, size_checks, sizes_number, refused_or}
use Rattle.machine.specs.State.{State}
use Rattle.machine.specs.Machine.{zeroed}
use Rattle.machine.proofs.Tests.{neither}
use Rattle.machine.specs.WellFormed.{well_formed}
use Rattle.image_layout.proofs.Rows.{whole_length, form-told}
use Rattle.image_layout.specs.Layout.{fixed_of, form_of, of_blocks, kinds, start_of, heads_in}
use Rattle.image.specs.Answer.{answered, given_if}
use Rattle.image.specs.Opening.{opened, judged}
use Rattle.image.specs.Calls.{writing, write_refusal, write_as, reading, read_refusal, read_by, read}
use Rattle.image.specs.Image.{shape_of, Lengths, image, record_in, state_in}
use Rattle.image.specs.Refusal.{loses_counts, write_checks, record_number, write_number, content_number, record_checks, records_number, read_number_in}
use Rattle.image.specs.Types.{Form, Shape, Machine}

-- The lengths.

pub record Sized (f : Form) (room bytes size : ℕ) : Type 0 where
  pub registers : bad_registers room ≡ false
  pub memory : bad_memory bytes ≡ false
  pub length : bad_length (fixed_of f) bytes size ≡ false

pub memory-blocks : (bytes : ℕ) → bad_memory bytes ≡ false → bytes / 64 ≤ 1024
memory-blocks bytes h = omega (arith, memory_most bytes h)

pub memory-whole : (bytes : ℕ) → bad_memory bytes ≡ false → 64 * (bytes / 64) ≡ bytes
memory-whole bytes h = omega (arith, eqb-true (bytes % 64) 0 (not-false (eqb (bytes % 64) 0) (neither (ltb bytes 64 || ltb 65536 bytes) (not (eqb (bytes % 64) 0)) h).1))

pub room-words : (room : ℕ) → bad_registers room ≡ false → room ≡ 8704
room-words room h = eqb-true room 8704 (not-false (eqb room 8704) h)

pub words-room : (room : ℕ) → room ≡ 8704 → bad_registers room ≡ false
words-room room h = rw (eq-eqb room 8704 h)

pub good_length : (fixed bytes size : ℕ) → bad_length fixed bytes size ≡ false → size ≡ image_length fixed bytes
good_length fixed bytes size h = eqb-true size (image_length fixed bytes) (not-false (eqb size (image_length fixed bytes)) h)

pub length-good : (fixed bytes size : ℕ) → size ≡ image_length fixed bytes → bad_length fixed bytes size ≡ false
length-good fixed bytes size h = rw (eq-eqb size (image_length fixed bytes) h)

module _ (f : Form) (room bytes size : ℕ) where
  pub sized : sizes_number (fixed_of f) room bytes size ≡ none → Sized f room bytes size
  unfolding sizes_number first_that_applies
  sized h =
      let a = passed (bad_registers room) 2 _ h in
      let b = passed (bad_memory bytes) 3 _ a.1 in
      let c = passed (bad_length (fixed_of f) bytes size) 9 none b.1 in
      record { registers = a.0; memory = b.0; length = c.0 }

  pub sizes-none : Sized f room bytes size → sizes_number (fixed_of f) room bytes size ≡ none
  unfolding sizes_number first_that_applies
  sizes-none k = rw (k.registers, k.memory, k.length)

  module _ (k : Sized f room bytes size) where
    pub long : start_of (of_blocks f (bytes / 64)) kinds ≡ size
    long = whole_length (of_blocks f (bytes / 64)) ∙ sym (good_length (fixed_of f) bytes size k.length)

    -- the length says the form
    pub told : form_of size ≡ f
    told = ap form_of (good_length (fixed_of f) bytes size k.length) ∙ form-told f bytes

pub lengths : (f : Form) (registers memory : List ℕ) (size : ℕ) → Sized f (length registers) (length memory) size → Lengths (shape_of f memory) registers memory
lengths f registers memory size k =
    record { room = room-words (length registers) k.registers; whole = memory-whole (length memory) k.memory; few = memory-blocks (length memory) k.memory }

-- Writing.

module _ (f : Form) (dropping : Bool) (m : Machine) where
  pub record-bad : well_formed m ≡ false → record_number f dropping m ≡ some 4
  unfolding record_number first_that_applies
  record-bad h = rw h

  pub record-loses : well_formed m ≡ true → loses_counts f dropping m ≡ true → record_number f dropping m ≡ some 11
  unfolding record_number first_that_applies
  record-loses h g = rw (h, g)

  pub record-none : well_formed m ≡ true → loses_counts f dropping m ≡ false → record_number f dropping m ≡ none
  unfolding record_number first_that_applies
  record-none h g = rw (h, g)

  pub record-good : record_number f dropping m ≡ none → (well_formed m ≡ true) × (loses_counts f dropping m ≡ false)
  unfolding record_number first_that_applies
  record-good h =
      let a = passed (not (well_formed m)) 4 _ h in
      (not-false (well_formed m) a.0, (passed (loses_counts f dropping m) 11 none a.1).0)

module _ (f : Form) (dropping : Bool) (s : State) (buffer : List ℕ) where
  abbrev sizes : Option ℕ
  sizes = sizes_number (fixed_of f) (length s.registers) (length s.memory) (length buffer)

  -- the lengths are judged before the record
  pub write-number : refused_or sizes some (record_number f dropping s.machine) ≡ write_refusal f dropping s buffer
  unfolding write_number sizes_number record_number
  write-number = sym (first-after (size_checks (fixed_of f) (length s.registers) (length s.memory) (length buffer)) (write_checks f dropping s.machine))

  pub write-by : (o : Option ℕ) → write_refusal f dropping s buffer ≡ o
      → refused_or o (λ number. writing (refused number) buffer) (writing (given tt) (image f s)) ≡ write_as f dropping s buffer
  unfolding write_as
  write-by o e = rw e

  pub refused-sizes : (n : ℕ) → sizes ≡ some n → write_refusal f dropping s buffer ≡ some n
  refused-sizes n h = sym write-number ∙ ap (λ o. refused_or o some (record_number f dropping s.machine)) h

  pub refused-record : (n : ℕ) → sizes ≡ none → record_number f dropping s.machine ≡ some n → write_refusal f dropping s buffer ≡ some n
  refused-record n h g = sym write-number ∙ rw (h, g)

  pub write-refused : (n : ℕ) → write_refusal f dropping s buffer ≡ some n → writing (refused n) buffer ≡ write_as f dropping s buffer
  write-refused n = write-by (some n)

  pub write-taken : sizes ≡ none → record_number f dropping s.machine ≡ none → writing (given tt) (image f s) ≡ write_as f dropping s buffer
  write-taken h g = write-by none (sym write-number ∙ rw (h, g))

  pub write-good : write_refusal f dropping s buffer ≡ none → (sizes ≡ none) × (record_number f dropping s.machine ≡ none)
  write-good h = either-given sizes (record_number f dropping s.machine) (write-number ∙ h)

-- Reading.

module _ (heads accepted : Bool) where
  pub content-heads : heads ≡ false → content_number heads accepted ≡ some 10
  unfolding content_number first_that_applies
  content-heads h = rw h

  pub content-bad : heads ≡ true → accepted ≡ false → content_number heads accepted ≡ some 4
  unfolding content_number first_that_applies
  content-bad h g = rw (h, g)

  pub content-none : heads ≡ true → accepted ≡ true → content_number heads accepted ≡ none
  unfolding content_number first_that_applies
  content-none h g = rw (h, g)

  pub content-good : content_number heads accepted ≡ none → (heads ≡ true) × (accepted ≡ true)
  unfolding content_number first_that_applies
  content-good h =
      let a = passed (not heads) 10 _ h in
      let b = passed (not accepted) 4 none a.1 in
      (not-false heads a.0, not-false accepted b.0)

  module _ (m : Machine) where
    -- what is handed back of bytes whose marks do not stand, and of those whose marks do
    pub judged-heads : heads ≡ false → judged (Err V.Image) ≡ opened (content_number heads accepted) (refused_or (content_number heads accepted) (λ n. zeroed) m)
    judged-heads h = rw (content-heads h)

module _ (s : Shape) (l : List ℕ) where
  pub records-none : heads_in s l ≡ true → record_in s l ≡ true → records_number s l ≡ none
  unfolding records_number content_number
  records-none = content-none (heads_in s l) (record_in s l)

  pub records-good : records_number s l ≡ none → (heads_in s l ≡ true) × (record_in s l ≡ true)
  unfolding records_number content_number
  records-good = content-good (heads_in s l) (record_in s l)

pub judged-record : (r : Result Machine Refusal) (heads accepted : Bool) (m : Machine) → heads ≡ true → answered r ≡ given_if accepted m
    → judged r ≡ opened (content_number heads accepted) (refused_or (content_number heads accepted) (λ n. zeroed) m)
judged-record (Ok x) heads true m h e = let z : x ≡ m = cc in rw (content-none heads true h refl) (ap (λ y. opened none y) z)
judged-record (Ok x) heads false m h e = absurd (let z : ◌≡◌ {A = ℕ} 0 1 = cc in omega arith)
judged-record (Err y) heads true m h e = absurd (let z : ◌≡◌ {A = ℕ} 0 1 = cc in omega arith)
judged-record (Err y) heads false m h e = let z : row_of y ≡ 4 = cc in rw (content-bad heads false h refl) (ap (λ n. opened (some n) zeroed) z)

pub read_number_lem : (f : Form) (l : List ℕ) (room bytes : ℕ) → read_number_in f l room bytes ≡ refused_or (sizes_number (fixed_of f) room bytes (length l)) some (records_number (of_blocks f (bytes / 64)) l)
unfolding read_number_in sizes_number records_number
read_number_lem f l room bytes = first-after (size_checks (fixed_of f) room bytes (length l)) (record_checks (of_blocks f (bytes / 64)) l)

module _ (l registers memory : List ℕ) where
  pub read-by : (o : Option ℕ) → read_refusal l registers memory ≡ o → read_by o (shape_of (form_of (length l)) memory) l registers memory ≡ read l registers memory
  unfolding read
  read-by o h = rw h

  pub read_taken : read_refusal l registers memory ≡ none → reading (given tt) (state_in (shape_of (form_of (length l)) memory) l) ≡ read l registers memory
  read_taken = read-by none

pub read-sized : (f : Form) (l : List ℕ) (room bytes : ℕ) → read_number_in f l room bytes ≡ none → (sizes_number (fixed_of f) room bytes (length l) ≡ none) × (records_number (of_blocks f (bytes / 64)) l ≡ none)
read-sized f l room bytes h = either-given (sizes_number (fixed_of f) room bytes (length l)) _ (sym (read_number_lem f l room bytes) ∙ h)
