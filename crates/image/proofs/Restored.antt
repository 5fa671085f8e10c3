-- What was read is written back: the state of an accepted image has that image.
use Prim.Native.Nat.{ℕ, zero, suc, ◌+◌, ◌*◌, ◌/◌, ◌%◌, ◌≤◌, ◌<◌}
use mathlib.Core.Bool.{Bool, true, false}
use mathlib.Core.List.{List, [], ◌∷◌, ◌++◌, map}
use mathlib.Core.Path.{◌≡◌, refl, sym, ap, ◌∙◌}
use native.Mathlib.Omega.{arith}
use lib.ListN.{length, get_or, take, drop}
use lib.Seq.{take_at, drop_at, drop-drop, get_or-take}
use Rattle.answer.specs.Answer.{Answer, given, refused}
use Rattle.machine.specs.State.{scalar_index, lane_index}
use Rattle.machine.specs.State.{State}
use Rattle.image_layout.proofs.Parts.{cut-take, concat_below-same, read-concat_below, piece-even}
use Rattle.image_layout.proofs.Table.{laid-back}
use Rattle.image_layout.proofs.Tests.{all-intro, all-elim}
use Rattle.image_layout.specs.Join.{concat_below, all_below}
use Rattle.image_layout.specs.Layout.{of_blocks, kinds, thread_row, row_of, order_of, start_of, body_place, body_at, body_in, laid_out, heads_in}
use Rattle.image_layout.proofs.Rows.{threads}
use Rattle.image.proofs.Numbers.{exact, turns-of}
use Rattle.machine.proofs.Tests.{never}
use Rattle.image.specs.Fields.{fields_of, thread_of}
use Rattle.thread_entry.specs.Entry.{zero_thread}
use Rattle.machine.specs.Machine.{turns_at, turns_of}
use borrow.Author.Tests.{eq-eqb}
use lib.Dec.{eqb}
use Rattle.little_endian.specs.Numbers.{number_at, number_bytes, bytes_of, words_of}
use Rattle.image.specs.Claims.{Words, Bytes}
use Rattle.image.specs.Image.{field_bytes, body_of, image, fields_in, is_entry, entry_or, entry_in, threads_in, machine_in, words_in, registers_in, memory_in, state_in}
use Rattle.image.specs.Refusal.{no_counts, loses_counts}
use Rattle.image.specs.Types.{Kind, Hd, Ti, Sr, Vr, Mm, Form, Newest, Old, Shape, Thread}
use Rattle.image.proofs.Rooms.{room-length, body-size, memory-length}
use Rattle.little_endian.proofs.Numbers.{words-length, word_bound, past_end, behind, bytes_back}
use Rattle.image.proofs.Words.{bytes-concat_below, words-concat_below, words-bytes, part-bound, four-of}

-- Lists.

two-of : (c : List ℕ) → length c ≡ 2 → get_or c 0 0 ∷ get_or c 1 0 ∷ [] ≡ c
two-of [] h = absurd (omega arith)
two-of (x ∷ []) h = absurd (omega arith)
two-of (x ∷ y ∷ []) h = refl
two-of (x ∷ y ∷ z ∷ c) h = absurd (omega arith)

-- the bytes of n words are those of the first n
bytes_cut : (n : ℕ) (words : List ℕ) → bytes_of n words ≡ bytes_of n (take n words)
bytes_cut n words =
    bytes-concat_below n words
    ∙ (concat_below-same n (λ j. number_bytes 4 (get_or words j 0)) (λ j. number_bytes 4 (get_or (take n words) j 0)) (λ j h. ap (number_bytes 4) (sym (get_or-take n words j 0 h)))
    ∙ sym (bytes-concat_below n (take n words)))

body-bound : (a : Shape) (l : List ℕ) → Bytes l → (k : Kind) (i : ℕ) → Bytes (body_in a l k i)
unfolding body_at
body-bound a l h k i = part-bound (row_of a k).size (body_place (row_of a k) (start_of a (order_of k)) i) l h

-- an entry's bytes are those of its numbers
entry-back : (f : Form) (c : List ℕ) → length c ≡ (thread_row f).size → Bytes c → field_bytes f (fields_in c) ≡ c
entry-back Old c h b = four-of c h
entry-back Newest [] h b = absurd (omega arith)
entry-back Newest (x ∷ []) h b = absurd (omega arith)
entry-back Newest (x ∷ y ∷ []) h b = absurd (omega arith)
entry-back Newest (x ∷ y ∷ z ∷ []) h b = absurd (omega arith)
entry-back Newest (x ∷ y ∷ z ∷ w ∷ c) h b =
    ap (λ r. x ∷ y ∷ z ∷ w ∷ r)
    (ap (number_bytes 4) (sym (behind 4 (x ∷ y ∷ z ∷ w ∷ c) 4 0)) ∙ bytes_back 4 c (omega arith) (λ k. b (suc (suc (suc (suc k))))))

-- an entry that was read
the-entry : (o : Answer Thread) → is_entry o ≡ true → o ≡ given (entry_or o)
the-entry (given e) h = refl
the-entry (refused n) h = never h refl

module _ (a : Shape) (l : List ℕ) (long : start_of a kinds ≤ length l) (bytes : Bytes l) (read : all_below 8 (λ t. is_entry (entry_in a l t)) ≡ true) where
  abbrev s : State
  s = state_in a l

  hd : (i : ℕ) → i < 1 → body_of a.form s Hd i ≡ body_in a l Hd i
  unfolding machine_in
  hd i h = two-of (body_in a l Hd 0) (body-size a l long Hd 0 (omega arith)) ∙ ap (body_in a l Hd) (let z : 0 ≡ i = omega arith in z)

  ti : (i : ℕ) → i < 8 → body_of a.form s Ti i ≡ body_in a l Ti i
  unfolding machine_in threads_in entry_in
  ti i h =
      let o = entry_in a l i in
      let g = the-entry o (all-elim 8 (λ t. is_entry (entry_in a l t)) read i h) in
      let f = (exact (fields_in (body_in a l Ti i)) (entry_or o)).0 g in
      ap (λ e. field_bytes a.form (fields_of e)) (read-concat_below zero_thread 8 i (λ t. entry_or (entry_in a l t)) h)
      ∙ (ap (field_bytes a.form) f
      ∙ entry-back a.form (body_in a l Ti i) (body-size a l long Ti i (omega (arith, threads a.form))) (body-bound a l bytes Ti i))

  -- n words of a row, from where its row of words stands in the register file
  words-of : (k : Kind) (n i : ℕ) → (row_of a k).size ≡ 4 * n → i < (row_of a k).count → (p : ℕ) → take n (drop p (registers_in a l)) ≡ words_of n (body_in a l k i)
      → bytes_of n (drop p (registers_in a l)) ≡ body_in a l k i
  words-of k n i e h p g =
      bytes_cut n (drop p (registers_in a l))
      ∙ (ap (bytes_of n) g
      ∙ words-bytes n (body_in a l k i) (body-size a l long k i h ∙ e) (body-bound a l bytes k i))

  room-piece : (k : Kind) (n i : ℕ) → i < (row_of a k).count → take n (drop (n * i) (words_in a l k n)) ≡ words_of n (body_in a l k i)
  unfolding words_in
  room-piece k n i h = piece-even (row_of a k).count i n (λ i. words_of n (body_in a l k i)) (λ i _. words-length n (body_in a l k i)) h

  sr : (i : ℕ) → i < 8 → body_of a.form s Sr i ≡ body_in a l Sr i
  unfolding registers_in
  sr i h =
      let front = words_in a l Sr 64 in
      let back = words_in a l Vr 16 in
      let z : scalar_index i 0 ≡ 64 * i = omega arith in
      words-of Sr 64 i refl h (scalar_index i 0)
      (ap (λ p. take 64 (drop p (front ++ back))) z
      ∙ (sym (cut-take (64 * i) 64 512 (front ++ back) (omega arith))
      ∙ (ap (λ m. take 64 (drop (64 * i) m)) (take_at front back 512 (room-length a l Sr 64)) ∙ room-piece Sr 64 i h)))

  vr : (i : ℕ) → i < 512 → body_of a.form s Vr i ≡ body_in a l Vr i
  unfolding registers_in
  vr i h =
      let front = words_in a l Sr 64 in
      let back = words_in a l Vr 16 in
      let z : lane_index (i / 64) (i % 64) 0 ≡ 512 + 16 * i = omega arith in
      words-of Vr 16 i refl h (lane_index (i / 64) (i % 64) 0)
      (ap (λ p. take 16 (drop p (front ++ back))) z
      ∙ (ap (take 16) (sym (drop-drop (16 * i) 512 (front ++ back)))
      ∙ (ap (λ m. take 16 (drop (16 * i) m)) (drop_at front back 512 (room-length a l Sr 64)) ∙ room-piece Vr 16 i h)))

  mm : (i : ℕ) → i < a.blocks → body_of a.form s Mm i ≡ body_in a l Mm i
  unfolding memory_in
  mm i h = piece-even a.blocks i 64 (body_in a l Mm) (body-size a l long Mm) h

  every : (k : Kind) (i : ℕ) → i < (row_of a k).count → body_of a.form s k i ≡ body_in a l k i
  every Hd i h = hd i h
  every Ti i h = ti i (omega (arith, threads a.form))
  every Sr i h = sr i h
  every Vr i h = vr i h
  every Mm i h = mm i h

  pub image-back : start_of a kinds ≡ length l → heads_in a l ≡ true → image a.form s ≡ l
  unfolding image
  image-back len ok =
      let e : length (memory_in a l) / 64 ≡ a.blocks = omega (arith, memory-length a l long) in
      ap (λ b. laid_out (of_blocks a.form b) (body_of a.form s)) e ∙ laid-back a l (body_of a.form s) len ok every

-- Every register read is a word.

append-bound : (b : ℕ) (xs ys : List ℕ) → ((k : ℕ) → get_or xs k 0 < b) → ((k : ℕ) → get_or ys k 0 < b) → (k : ℕ) → get_or (xs ++ ys) k 0 < b
append-bound b [] ys f g k = g k
append-bound b (x ∷ xs) ys f g zero = f 0
append-bound b (x ∷ xs) ys f g (suc k) = append-bound b xs ys (λ k. f (suc k)) g k

concat_below-bound : (b n : ℕ) (f : ℕ → List ℕ) → 0 < b → ((i k : ℕ) → get_or (f i) k 0 < b) → (k : ℕ) → get_or (concat_below n f) k 0 < b
unfolding concat_below
concat_below-bound b zero f p h k = p
concat_below-bound b (suc n) f p h k = append-bound b (concat_below n f) (f n) (concat_below-bound b n f p h) (h n) k

one-bound : (b x : ℕ) → 0 < b → x < b → (k : ℕ) → get_or (x ∷ []) k 0 < b
one-bound b x p h zero = h
one-bound b x p h (suc k) = p

words-bound : (n : ℕ) (l : List ℕ) → Bytes l → Words (words_of n l)
words-bound n l h k =
    rw (words-concat_below n l)
    (concat_below-bound 4294967296 n (λ j. number_at 4 l (4 * j) ∷ []) (omega arith)
    (λ j. one-bound 4294967296 (number_at 4 l (4 * j)) (omega arith) (word_bound l (4 * j) h)) k)

pub registers-bound : (a : Shape) (l : List ℕ) → Bytes l → Words (registers_in a l)
unfolding registers_in words_in
registers-bound a l h =
    append-bound 4294967296 (words_in a l Sr 64) (words_in a l Vr 16)
    (concat_below-bound 4294967296 8 (λ i. words_of 64 (body_in a l Sr i)) (omega arith) (λ i. words-bound 64 (body_in a l Sr i) (body-bound a l h Sr i)))
    (concat_below-bound 4294967296 512 (λ i. words_of 16 (body_in a l Vr i)) (omega arith) (λ i. words-bound 16 (body_in a l Vr i) (body-bound a l h Vr i)))

-- Every count read is a word.

-- the count of turns of an answer is that of the numbers that it was read from, or 0
entry-turns : (o : Answer Thread) (c : List ℕ) → thread_of (fields_in c) ≡ o → (b : ℕ) → 0 < b → number_at 4 c 4 < b → (entry_or o).turns < b
entry-turns (refused n) c g b z h = z
entry-turns (given e) c g b z h =
    let f = (exact (fields_in c) e).0 g in
    rw (sym (turns-of e.status e.turns) ∙ ap (λ n. n.turns) f) h

map-append : {A B : Type 0} (f : A → B) (xs ys : List A) → map f (xs ++ ys) ≡ map f xs ++ map f ys
map-append f [] ys = refl
map-append {B = B} f (x ∷ xs) ys = ap {B = List B} (λ r. f x ∷ r) (map-append f xs ys)

map-concat_below : {A B : Type 0} (g : A → B) (n : ℕ) (f : ℕ → A) → map g (concat_below n (λ i. f i ∷ [])) ≡ concat_below n (λ i. g (f i) ∷ [])
unfolding concat_below
map-concat_below g zero f = refl
map-concat_below g (suc n) f = map-append g (concat_below n (λ i. f i ∷ [])) (f n ∷ []) ∙ ap (λ r. r ++ g (f n) ∷ []) (map-concat_below g n f)

pub counts-bound : (a : Shape) (l : List ℕ) → Bytes l → Words (turns_of (machine_in a l))
unfolding turns_of machine_in threads_in entry_in
counts-bound a l h k =
    let e : ℕ → Thread = λ t. entry_or (entry_in a l t) in
    rw (map-concat_below (λ x. x.turns) 8 e)
    (concat_below-bound 4294967296 8 (λ t. (e t).turns ∷ []) (omega arith)
    (λ t. one-bound 4294967296 (e t).turns (omega arith)
    (entry-turns (entry_in a l t) (body_in a l Ti t) refl 4294967296 (omega arith) (word_bound (body_in a l Ti t) 4 (body-bound a l h Ti t)))) k)

-- "Old images are read with all counts 0.": so that none is lost where the machine is written in the form that it was read in.

module _ (blocks : ℕ) (l : List ℕ) (long : start_of (of_blocks Old blocks) kinds ≤ length l) where
  abbrev old : Shape
  old = of_blocks Old blocks

  no-turns : (t : ℕ) → t < 8 → turns_at (machine_in old l) t ≡ 0
  unfolding machine_in threads_in entry_in
  no-turns t h =
      let c = body_in old l Ti t in
      let z = past_end 4 c 4 (omega (arith, body-size old l long Ti t h)) in
      let b = entry-turns (entry_in old l t) c refl 1 (omega arith) (omega (arith, z)) in
      ap (λ e. e.turns) (read-concat_below zero_thread 8 t (λ t. entry_or (entry_in old l t)) h) ∙ omega (arith, b)

  no-counts : no_counts (machine_in old l) ≡ true
  unfolding no_counts
  no-counts = all-intro 8 (λ t. eqb (turns_at (machine_in old l) t) 0) (λ t h. eq-eqb (turns_at (machine_in old l) t) 0 (no-turns t h))

  none-lost : (dropping : Bool) → loses_counts Old dropping (machine_in old l) ≡ false
  none-lost true = refl
  none-lost false = rw no-counts

pub nothing-lost : (f : Form) (blocks : ℕ) (l : List ℕ) → start_of (of_blocks f blocks) kinds ≤ length l → (dropping : Bool)
    → loses_counts f dropping (machine_in (of_blocks f blocks) l) ≡ false
nothing-lost Newest blocks l long dropping = refl
nothing-lost Old blocks l long dropping = none-lost blocks l long dropping
