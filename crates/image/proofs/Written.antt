-- What was written is read back: of every state that the writer takes, at the fixed places of its image.
use Prim.Native.Nat.{ℕ, ◌+◌, ◌*◌, ◌/◌, ◌%◌, ◌≤◌, ◌<◌, ◌^◌}
use mathlib.Core.Bool.{true}
use mathlib.Core.List.{List, [], ◌∷◌, ◌++◌}
use mathlib.Core.Path.{◌≡◌, refl, sym, ap, ◌∙◌}
use native.Mathlib.Nat.{le_of_eq}
use native.Mathlib.Omega.{arith}
use lib.ListN.{length, get_or, take, drop, length-drop}
use lib.Seq.{take_all, take-add, get_or-drop}
use Rattle.answer.specs.Answer.{given}
use Rattle.machine.specs.State.{scalar_index, lane_index}
use Rattle.machine.specs.State.{State, state}
use Rattle.image_layout.proofs.Join.{fits_in}
use Rattle.image_layout.proofs.Parts.{concat_below-same, concat_below-read, pieces-even}
use Rattle.image_layout.proofs.Table.{laid-body, laid-heads}
use Rattle.image_layout.proofs.Tests.{two, all-intro}
use Rattle.image_layout.specs.Join.{concat_below, all_below}
use Rattle.image_layout.proofs.Rows.{threads}
use Rattle.image_layout.specs.Layout.{thread_row, row_of, body_in, heads_in}
use Rattle.image.proofs.Numbers.{exact, turns-of}
use Rattle.image.specs.Fields.{fields, status_fields, fields_of}
use Rattle.thread_entry.specs.Entry.{entry_of, zero_thread, with_count}
use Rattle.machine.specs.Machine.{turns_of}
use Rattle.machine.proofs.Claims.{tested, counts-kept, counts-unseen}
use Rattle.thread_entry.specs.Status.{limits}
use Rattle.machine.specs.WellFormed.{well_formed}
use Rattle.little_endian.proofs.Numbers.{past_end, behind, word_back}
use Rattle.little_endian.specs.Numbers.{number_at, number_bytes, bytes_of, words_of}
use Rattle.image.specs.Claims.{Words}
use Rattle.image.specs.Image.{shape_of, Lengths, status_bytes, field_bytes, body_of, image, held_record, held, fields_in, is_entry, entry_or, entry_in, threads_in, machine_in, record_in, words_in, registers_in, memory_in, state_in}
use Rattle.image.specs.Types.{Kind, Hd, Ti, Sr, Vr, Mm, Form, Newest, Old, Shape, Status, Idle, Running, Ended, Trapped, Waiting, Machine, Thread, ThreadFields}
use Rattle.image.proofs.Bodies.{body-length}
use Rattle.image.proofs.Words.{words_back}

-- An entry's bytes are read as the entry that the form holds: in the old form, with the count 0.

abbrev held_entry : Form → Thread → Thread
held_entry Newest e = e
held_entry Old e = with_count e 0

uncounted : (s : Status) (turns : ℕ) → fields (status_fields s turns).status (status_fields s turns).reason (status_fields s turns).id (status_fields s turns).count 0 ≡ status_fields s 0
uncounted Idle turns = refl
uncounted Running turns = refl
uncounted Ended turns = refl
uncounted (Trapped reason) turns = refl
uncounted (Waiting id count) turns = refl

entry_read : (f : Form) (e : Thread) → e.turns < 2 ^ 32 → fields_in (field_bytes f (fields_of e)) ≡ fields_of (held_entry f e)
entry_read Newest e h =
    let n : ThreadFields = fields_of e in
    let b : n.turns < 2 ^ 32 = rw (turns-of e.status e.turns) h in
    let p : number_at 4 (status_bytes n ++ number_bytes 4 n.turns) 4 ≡ n.turns =
    sym (behind 4 (status_bytes n ++ number_bytes 4 n.turns) 4 0) ∙ word_back n.turns b in
    (λ i. fields n.status n.reason n.id n.count (p i))
entry_read Old e h =
    let n : ThreadFields = fields_of e in
    ap (fields n.status n.reason n.id n.count) (past_end 4 (status_bytes n) 4 (omega arith)) ∙ uncounted e.status e.turns

-- The record that a form holds of a well-formed one: it is well formed, with eight entries.

held-formed : (f : Form) (m : Machine) → well_formed m ≡ true → well_formed (held_record f m) ≡ true
held-formed Newest m h = h
held-formed Old m h = counts-unseen.well-formed m [] ∙ h

module _ (m : Machine) (h : well_formed m ≡ true) where
  pub eight : length m.threads ≡ 8
  eight = ((tested limits m).0 h).entries

  held-entry : (f : Form) (t : ℕ) → t < 8 → held_entry f (get_or m.threads t zero_thread) ≡ get_or (held_record f m).threads t zero_thread
  held-entry Newest t l = refl
  held-entry Old t l = sym (λ i. entry_of (counts-unseen.statuses m [] t i) (counts-kept.put-at m [] t (omega (arith, eight)) i))

-- The record, in any bytes that hold it at the fixed places of HD and TI.

module _ (a : Shape) (l : List ℕ) (m : Machine) (h : well_formed m ≡ true) (counts : Words (turns_of m))
    (hd : body_in a l Hd 0 ≡ body_of a.form (state m [] []) Hd 0)
    (ti : (t : ℕ) → t < (thread_row a.form).count → body_in a l Ti t ≡ body_of a.form (state m [] []) Ti t) where
  abbrev entry : ℕ → Thread
  entry t = get_or m.threads t zero_thread

  abbrev n : Machine
  n = held_record a.form m

  entry-held : (t : ℕ) → t < 8 → entry_in a l t ≡ given (get_or n.threads t zero_thread)
  unfolding entry_in
  entry-held t k =
      let b : (entry t).turns < 2 ^ 32 = rw (← counts-kept.at m t) (counts t) in
      let e : fields_in (body_in a l Ti t) ≡ fields_of (held_entry a.form (entry t)) = ap fields_in (ti t (omega (arith, threads a.form))) ∙ entry_read a.form (entry t) b in
      (exact (fields_in (body_in a l Ti t)) (held_entry a.form (entry t))).1 (sym e) ∙ ap given (held-entry m h a.form t k)

  held-well-formed : well_formed n ≡ true
  held-well-formed = held-formed a.form m h

  threads-held : threads_in a l ≡ n.threads
  unfolding threads_in
  threads-held =
      let eight-held = eight n held-well-formed in
      concat_below-same 8 (λ t. entry_or (entry_in a l t) ∷ []) (λ t. get_or n.threads (0 + t) zero_thread ∷ [])
      (λ t k. ap (λ e. entry_or e ∷ []) (entry-held t k) ∙ ap (λ z. get_or n.threads z zero_thread ∷ []) (let z : t ≡ 0 + t = omega arith in z))
      ∙ (concat_below-read zero_thread 8 0 n.threads (omega (arith, eight-held)) ∙ take_all 8 n.threads (le_of_eq eight-held))

  pub machine-held : machine_in a l ≡ n
  unfolding machine_in
  machine-held = (λ i. record { enabled = get_or (hd i) 1 0; last = get_or (hd i) 0 0; threads = threads-held i }) ∙ record_of a.form
    where
      record_of : (f : Form) → record { enabled = m.enabled; last = m.last; threads = (held_record f m).threads } ≡ held_record f m
      record_of Newest = refl
      record_of Old = refl

  pub record-held : record_in a l ≡ true
  unfolding record_in
  record-held =
      two (all_below 8 (λ t. is_entry (entry_in a l t))) (well_formed (machine_in a l))
      (all-intro 8 (λ t. is_entry (entry_in a l t)) (λ t k. ap is_entry (entry-held t k)))
      (ap well_formed machine-held ∙ held-well-formed)

-- Words laid out in rows of n, from place p on.

rows_back : (n count p : ℕ) (words : List ℕ) → Words words → p + n * count ≤ length words
    → concat_below count (λ i. words_of n (bytes_of n (drop (p + n * i) words))) ≡ take (n * count) (drop p words)
rows_back n count p words b room =
    concat_below-same count (λ i. words_of n (bytes_of n (drop (p + n * i) words))) (λ i. take n (drop (p + n * i) words))
    (λ i h. words_back n (drop (p + n * i) words) (rw (length-drop (p + n * i) words) (omega (arith, fits_in n i count h))) (λ k. rw (get_or-drop (p + n * i) words k 0) (b (p + n * i + k))))
    ∙ pieces-even count n p words

module _ (f : Form) (s : State) (w : Lengths (shape_of f s.memory) s.registers s.memory) where
  abbrev a : Shape
  a = shape_of f s.memory

  abbrev l : List ℕ
  l = image f s

  pub body : (k : Kind) (i : ℕ) → i < (row_of a k).count → body_in a l k i ≡ body_of f s k i
  unfolding image
  body = laid-body a (body_of f s) (body-length a s w)

  pub heads-back : heads_in a l ≡ true
  unfolding image
  heads-back = laid-heads a (body_of f s) (body-length a s w)

  pub memory-back : memory_in a l ≡ s.memory
  unfolding memory_in
  memory-back =
      concat_below-same a.blocks (body_in a l Mm) (λ i. take 64 (drop (0 + 64 * i) s.memory)) (λ i h. body Mm i h ∙ ap (λ p. take 64 (drop p s.memory)) (let z : 64 * i ≡ 0 + 64 * i = omega arith in z))
      ∙ (pieces-even a.blocks 64 0 s.memory ∙ take_all (64 * a.blocks) s.memory (omega (arith, w.whole)))

  module _ (b : Words s.registers) where
    scalars : words_in a l Sr 64 ≡ take 512 s.registers
    unfolding words_in
    scalars =
        concat_below-same 8 (λ i. words_of 64 (body_in a l Sr i)) (λ i. words_of 64 (bytes_of 64 (drop (0 + 64 * i) s.registers)))
        (λ i h. ap (words_of 64) (body Sr i h ∙ ap (λ p. bytes_of 64 (drop p s.registers)) (let z : scalar_index i 0 ≡ 0 + 64 * i = omega arith in z)))
        ∙ rows_back 64 8 0 s.registers b (omega (arith, w.room))

    vectors : words_in a l Vr 16 ≡ take 8192 (drop 512 s.registers)
    unfolding words_in
    vectors =
        concat_below-same 512 (λ i. words_of 16 (body_in a l Vr i)) (λ i. words_of 16 (bytes_of 16 (drop (512 + 16 * i) s.registers)))
        (λ i h. ap (words_of 16) (body Vr i h ∙ ap (λ p. bytes_of 16 (drop p s.registers)) (let z : lane_index (i / 64) (i % 64) 0 ≡ 512 + 16 * i = omega arith in z)))
        ∙ rows_back 16 512 512 s.registers b (omega (arith, w.room))

    pub registers-back : registers_in a l ≡ s.registers
    unfolding registers_in
    registers-back = (λ i. scalars i ++ vectors i) ∙ (sym (take-add 512 8192 s.registers) ∙ take_all 8704 s.registers (le_of_eq w.room))

  module _ (h : well_formed s.machine ≡ true) (counts : Words (turns_of s.machine)) where
    pub machine-back : machine_in a l ≡ held_record f s.machine
    machine-back = machine-held a l s.machine h counts (body Hd 0 (omega arith)) (body Ti)

    pub record-back : record_in a l ≡ true
    record-back = record-held a l s.machine h counts (body Hd 0 (omega arith)) (body Ti)

    pub state-back : Words s.registers → state_in a l ≡ held f s
    state-back b = (λ i. state (machine-back i) (registers-back b i) (memory-back i))
