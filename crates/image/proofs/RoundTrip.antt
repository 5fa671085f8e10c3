-- Writing then reading, reading then writing, and which images are accepted.
use Prim.Native.Nat.{ℕ, suc, ◌/◌, ◌<◌}
use mathlib.Core.Bool.{Bool, true, false, and-eq-true_iff}
use mathlib.Core.List.{List, [], ◌∷◌}
use mathlib.Core.Option.{Option, none, some}
use mathlib.Core.Path.{◌≡◌, refl, sym, ap, ◌∙◌}
use native.Mathlib.Nat.{le_of_eq}
use native.Mathlib.Omega.{arith}
use borrow.Author.Tests.{eqb-true, not-false}
use lib.Dec.{eqb}
use lib.ListN.{length, get_or}
use Rattle.answer.specs.Answer.{Answer, given, refused}
use Rattle.answer.specs.Refusal.{image_length, sizes_number, refused_or}
use Rattle.machine.specs.State.{State, state}
use Rattle.thread_entry.specs.Entry.{entry_of, zero_thread}
use Rattle.machine.specs.Machine.{zeroed, turns_at, turns_of, with_counts}
use Rattle.machine.specs.WellFormed.{well_formed}
use Rattle.image_layout.proofs.Tests.{all-elim}
use Rattle.image_layout.specs.Join.{all_below}
use Rattle.image_layout.specs.Layout.{fixed_of, form_of, of_blocks, heads_in}
use Rattle.image.specs.Calls.{writing, write_refusal, write_as, write, write_old, reading, read_refusal, read}
use Rattle.image.specs.Claims.{Words, Bytes, WrittenThenRead, DroppedThenRead, ReadThenWritten, Writable, ImageOf, ReadsExactly, OldToNewToOld}
use Rattle.image.specs.Image.{shape_of, image, held_record, held, is_entry, entry_in, machine_in, record_in, state_in}
use Rattle.image.specs.Refusal.{no_counts, loses_counts, record_number, records_number, read_number_in}
use Rattle.image.specs.Types.{Form, Newest, Old, Machine, Thread}
use Rattle.image.proofs.Refusals.{Sized, sized, sizes-none, long, told, lengths, room-words, words-room, good_length, length-good, record-good, record-none, write-good, write-taken, records-none, records-good, read_number_lem, read-sized, read_taken}
use Rattle.image.proofs.Restored.{image-back, registers-bound, counts-bound, nothing-lost}
use Rattle.image.proofs.Rooms.{registers-length, memory-length}
use Rattle.image.proofs.Bodies.{image-length}
use Rattle.image.proofs.Written.{eight, heads-back, record-back, state-back}

-- a call that is not refused got no number
not-refused : {A : Type 0} (o : Option ℕ) (f : A → Answer (Unit {0})) (r : ℕ → A) (x : A) → ((n : ℕ) → f (r n) ≡ refused n) → f (refused_or o r x) ≡ given tt → o ≡ none
not-refused none f r x g h = refl
not-refused (some n) f r x g h = let q : refused n ≡ given tt = sym (g n) ∙ h in absurd (let z : ◌≡◌ {A = ℕ} 0 1 = cc in omega arith)

writes : (f : Form) (dropping : Bool) (s : State) (buffer : List ℕ) → (write_as f dropping s buffer).answer ≡ given tt → write_refusal f dropping s buffer ≡ none
unfolding write_as
writes f dropping s buffer h =
    not-refused (write_refusal f dropping s buffer) (λ w. w.answer) (λ n. writing (refused n) buffer) (writing (given tt) (image f s)) (λ n. refl) h

read_none : (l registers memory : List ℕ) → (read l registers memory).answer ≡ given tt → read_refusal l registers memory ≡ none
unfolding read
read_none l registers memory h =
    not-refused (read_refusal l registers memory) (λ r. r.answer) (λ n. reading (refused n) (state zeroed registers memory))
    (reading (given tt) (state_in (shape_of (form_of (length l)) memory) l)) (λ n. refl) h

-- A state that a form holds whole.

-- entries without counts are as they are with the counts 0
none-counted : (xs : List Thread) → ((t : ℕ) → t < length xs → (get_or xs t zero_thread).turns ≡ 0) → with_counts xs [] ≡ xs
unfolding with_counts
none-counted [] h = refl
none-counted (x ∷ xs) h = (λ i. entry_of x.status (sym (h 0 (omega arith)) i) ∷ none-counted xs (λ t l. h (suc t) (omega arith)) i)

kept_whole : (f : Form) (m : Machine) → well_formed m ≡ true → loses_counts f false m ≡ false → held_record f m ≡ m
unfolding no_counts
kept_whole Newest m w h = refl
kept_whole Old m w h =
    let z = not-false (no_counts m) h in
    let each : (t : ℕ) → t < length m.threads → turns_at m t ≡ 0 = λ t l. eqb-true (turns_at m t) 0 (all-elim 8 (λ t. eqb (turns_at m t) 0) z t (omega (arith, eight m w))) in
    (λ i. record { enabled = m.enabled; last = m.last; threads = none-counted m.threads each i })

-- The image of a state is accepted, and holds it.

image-long : (f : Form) (s : State) (size : ℕ) → Sized f (length s.registers) (length s.memory) size → length (image f s) ≡ size
image-long f s size k =
    image-length f s (lengths f s.registers s.memory size k) ∙ long f (length s.registers) (length s.memory) size k

module _ (f : Form) (s : State) (size : ℕ) (registers memory : List ℕ) (k : Sized f (length s.registers) (length s.memory) size)
    (h : well_formed s.machine ≡ true) (counts : Words (turns_of s.machine))
    (rl : length registers ≡ length s.registers) (ml : length memory ≡ length s.memory) where
  form-is : form_of (length (image f s)) ≡ f
  form-is = ap form_of (image-long f s size k) ∙ told f (length s.registers) (length s.memory) size k

  accepts : read_refusal (image f s) registers memory ≡ none
  accepts =
      let w = lengths f s.registers s.memory size k in
      let z : sizes_number (fixed_of f) (length registers) (length memory) (length (image f s)) ≡ none =
      (λ i. sizes_number (fixed_of f) (rl i) (ml i) (image-long f s size k i)) ∙ sizes-none f (length s.registers) (length s.memory) size k in
      let g = ap (λ n. records_number (of_blocks f (n / 64)) (image f s)) ml ∙ records-none (shape_of f s.memory) (image f s) (heads-back f s w) (record-back f s w h counts) in
      ap (λ x. read_number_in x (image f s) (length registers) (length memory)) form-is
      ∙ (read_number_lem f (image f s) (length registers) (length memory) ∙ (λ i. refused_or (z i) some (g i)))

  reads : Words s.registers → read (image f s) registers memory ≡ reading (given tt) (held f s)
  reads b =
      sym (read_taken (image f s) registers memory accepts)
      ∙ ap (reading (given tt))
      ((λ i. state_in (of_blocks (form-is i) (ml i / 64)) (image f s)) ∙ state-back f s (lengths f s.registers s.memory size k) h counts b)

module _ (f : Form) (dropping : Bool) (s : State) (buffer registers memory : List ℕ) (b : Words s.registers) (counts : Words (turns_of s.machine))
    (h : (write_as f dropping s buffer).answer ≡ given tt) (rl : length registers ≡ length s.registers) (ml : length memory ≡ length s.memory) where
  good : (sizes_number (fixed_of f) (length s.registers) (length s.memory) (length buffer) ≡ none) × (record_number f dropping s.machine ≡ none)
  good = write-good f dropping s buffer (writes f dropping s buffer h)

  formed : (well_formed s.machine ≡ true) × (loses_counts f dropping s.machine ≡ false)
  formed = record-good f dropping s.machine good.1

  held-again : read (write_as f dropping s buffer).buffer registers memory ≡ reading (given tt) (held f s)
  held-again =
      ap (λ w. read w.buffer registers memory) (sym (write-taken f dropping s buffer good.0 good.1))
      ∙ reads f s (length buffer) registers memory (sized f (length s.registers) (length s.memory) (length buffer) good.0) formed.0 counts rl ml b

pub written-then-read : WrittenThenRead
written-then-read f s buffer registers memory b counts h rl ml =
    let g = formed f false s buffer registers memory b counts h rl ml in
    held-again f false s buffer registers memory b counts h rl ml
    ∙ ap (λ m. reading (given tt) (state m s.registers s.memory)) (kept_whole f s.machine g.0 g.1)

pub dropped-then-read : DroppedThenRead
dropped-then-read = held-again Old true

-- The state of an accepted image has that image.

module _ (l registers memory : List ℕ) (bytes : Bytes l) (h : read_refusal l registers memory ≡ none) where
  abbrev f : Form
  f = form_of (length l)

  abbrev s : State
  s = state_in (shape_of f memory) l

  sizes : Sized f (length registers) (length memory) (length l)
  sizes = sized f (length registers) (length memory) (length l) (read-sized f l (length registers) (length memory) h).0

  heads : (heads_in (shape_of f memory) l ≡ true) × (record_in (shape_of f memory) l ≡ true)
  heads = records-good (shape_of f memory) l (read-sized f l (length registers) (length memory) h).1

  entries : (all_below 8 (λ t. is_entry (entry_in (shape_of f memory) l t)) ≡ true) × (well_formed (machine_in (shape_of f memory) l) ≡ true)
  unfolding record_in
  entries = (and-eq-true_iff (all_below 8 (λ t. is_entry (entry_in (shape_of f memory) l t))) (well_formed (machine_in (shape_of f memory) l))).0 heads.1

  same_length : length s.memory ≡ length memory
  same_length =
      memory-length (shape_of f memory) l (le_of_eq (long f (length registers) (length memory) (length l) sizes))
      ∙ (lengths f registers memory (length l) sizes).whole

  same-image : image f s ≡ l
  same-image =
      let e = long f (length registers) (length memory) (length l) sizes in
      image-back (shape_of f memory) l (le_of_eq e) bytes entries.0 e heads.0

  -- it may be written in each form, into a buffer of that form's length
  state-sizes : (g : Form) (size : ℕ) → size ≡ image_length (fixed_of g) (length memory) → Sized g (length s.registers) (length s.memory) size
  state-sizes g size e = record {
    registers = words-room (length s.registers) (registers-length (shape_of f memory) l);
    memory = rw same_length sizes.memory;
    length = rw same_length (length-good (fixed_of g) (length memory) size e);
  }

  sound : Writable s
  sound = record {
    room = registers-length (shape_of f memory) l;
    words = registers-bound (shape_of f memory) l bytes;
    counts = counts-bound (shape_of f memory) l bytes;
    memory = rw same_length sizes.memory;
    well-formed = entries.1;
  }

  taken-again : (dropping : Bool) → record_number f dropping s.machine ≡ none
  taken-again dropping =
      record-none f dropping s.machine entries.1
      (nothing-lost f (length memory / 64) l (le_of_eq (long f (length registers) (length memory) (length l) sizes)) dropping)

pub read-then-written : ReadThenWritten
read-then-written dropping l registers memory buffer bytes h bl =
    let e = read_none l registers memory h in
    let f = form_of (length l) in
    let st = state_in (shape_of f memory) l in
    let k = state-sizes l registers memory bytes e f (length buffer) (bl ∙ good_length (fixed_of f) (length memory) (length l) (sizes l registers memory bytes e).length) in
    let z = sizes-none f (length st.registers) (length st.memory) (length buffer) k in
    ap (λ r. write_as f dropping r.left buffer) (sym (read_taken l registers memory e))
    ∙ (sym (write-taken f dropping st buffer z (taken-again l registers memory bytes e dropping)) ∙ ap (writing (given tt)) (same-image l registers memory bytes e))

pub reads-exactly : ReadsExactly
reads-exactly l registers memory bytes = (there, back)
  where
    there : (read l registers memory).answer ≡ given tt → (length registers ≡ 8704) × ImageOf l (length memory)
    there h =
        let e = read_none l registers memory h in (
          room-words (length registers) (sizes l registers memory bytes e).registers,
          record {
            form = form_of (length l);
            saved = state_in (shape_of (form_of (length l)) memory) l;
            sound = sound l registers memory bytes e;
            size = same_length l registers memory bytes e;
            same = same-image l registers memory bytes e;
          },
        )

    back : (length registers ≡ 8704) × ImageOf l (length memory) → (read l registers memory).answer ≡ given tt
    back p =
        let m = p.1 in
        let t = m.saved in
        let g = m.form in
        let size = image_length (fixed_of g) (length t.memory) in
        let k : Sized g (length t.registers) (length t.memory) size = record {
          registers = words-room (length t.registers) m.sound.room;
          memory = m.sound.memory;
          length = length-good (fixed_of g) (length t.memory) size refl;
        } in
        let e = accepts g t size registers memory k m.sound.well-formed m.sound.counts (p.0 ∙ sym m.sound.room) (sym m.size) in
        let f : read_refusal l registers memory ≡ none = ap (λ x. read_refusal x registers memory) (sym m.same) ∙ e in
        ap (λ r. r.answer) (sym (read_taken l registers memory f))

pub old-to-new-to-old : OldToNewToOld
old-to-new-to-old l registers memory newest others bytes buffer small h form nl ol dl bl =
    let e = read_none l registers memory h in
    let st = state_in (shape_of (form_of (length l)) memory) l in
    let r : reading (given tt) st ≡ read l registers memory = read_taken l registers memory e in
    let v = sound l registers memory small e in
    let k = state-sizes l registers memory small e Newest (length newest) nl in
    let z = sizes-none Newest (length st.registers) (length st.memory) (length newest) k in
    let g = record-none Newest false st.machine v.well-formed refl in
    let w : writing (given tt) (image Newest st) ≡ write st newest = write-taken Newest false st newest z g in
    let again = written-then-read Newest st newest others bytes v.words v.counts (ap (λ x. x.answer) (sym w)) (ol ∙ sym v.room) (dl ∙ sym (same_length l registers memory small e)) in
    let back = ap (λ x. write_as x false (read l registers memory).left buffer) (sym form) ∙ read-then-written false l registers memory buffer small h bl in
    ap (λ x. write_old false (read (write x.left newest).buffer others bytes).left buffer) (sym r)
    ∙ (ap (λ x. write_old false x.left buffer) again ∙ (ap (λ x. write_old false x.left buffer) r ∙ back))
