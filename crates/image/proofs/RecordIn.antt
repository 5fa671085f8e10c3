-- The machine record that an image holds, found at its fixed places.
use Prim.Native.Nat.{ℕ, ◌+◌, ◌*◌, ◌≤◌, ◌<◌}
use mathlib.Core.Bool.{Bool, true, false, ◌&&◌}
use mathlib.Core.List.{List, [], ◌∷◌}
use mathlib.Core.Path.{◌≡◌, refl, sym, ap, ◌∙◌}
use native.Mathlib.Omega.{arith}
use native.Mathlib.Nat.{le_of_eq}
use lib.ListN.{length, get_or, take, drop, length-drop}
use lib.Seq.{get_or-drop, get_or-take, length-take-le}
use Rattle.answer.specs.Answer.{Answer, given, refused, bad-record}
use Rattle.image_layout.proofs.Join.{grown-whole, length-even}
use Rattle.image_layout.proofs.Parts.{concat_below-same}
use Rattle.image_layout.proofs.Rows.{entry-least, record-room, kind-room-in, order-few}
use Rattle.image_layout.proofs.Tests.{all_same}
use Rattle.image_layout.specs.Join.{concat_below, all_below, Grown}
use Rattle.image_layout.specs.Layout.{thread_row, row_of, kinds, order_of, record_size, start_of, body_place, body_at}
use Rattle.little_endian.proofs.Numbers.{past_end, behind, cut}
use Rattle.little_endian.specs.Numbers.{number_at}
use Rattle.image.specs.Answer.{given_if}
use Rattle.image.specs.Fields.{fields, thread_of}
use Rattle.machine.specs.WellFormed.{well_formed}
use Rattle.image.specs.Image.{fields_in, is_entry, entry_or, entry_in, threads_in, machine_in, record_in}
use Rattle.image.specs.Types.{Hd, Ti, Form, Shape, Kind, Thread, Machine}

-- a byte of a part
pub part-byte : (l : List ℕ) (at w k : ℕ) → k < w → get_or (take w (drop at l)) k 0 ≡ get_or l (at + k) 0
part-byte l at w k h = get_or-take w (drop at l) k 0 h ∙ get_or-drop at l k 0

pub part-first : (l : List ℕ) (at w : ℕ) → 0 < w → get_or (take w (drop at l)) 0 0 ≡ get_or l at 0
part-first l at w h = part-byte l at w 0 h ∙ ap (λ z. get_or l z 0) (let z : at + 0 ≡ at = omega arith in z)

-- the count of turns in an entry's bytes, and past the end of those of the old form
pub turns-newest : (l : List ℕ) (at : ℕ) → number_at 4 l (at + 4) ≡ number_at 4 (take 8 (drop at l)) 4
turns-newest l at = sym (cut 4 8 (drop at l) 4 (omega arith) ∙ behind 4 l at 4)

pub turns-old : (l : List ℕ) (at : ℕ) → at + 4 ≤ length l → 0 ≡ number_at 4 (take 4 (drop at l)) 4
turns-old l at h = sym (past_end 4 (take 4 (drop at l)) 4 (le_of_eq (length-take-le 4 (drop at l) (rw (length-drop at l) (omega arith)))))

-- the numbers of the entry at a place
pub fields_at : (f : Form) (l : List ℕ) (at turns : ℕ) → turns ≡ number_at 4 (take (thread_row f).size (drop at l)) 4
    → fields (get_or l at 0) (get_or l (at + 1) 0) (get_or l (at + 2) 0) (get_or l (at + 3) 0) turns ≡ fields_in (take (thread_row f).size (drop at l))
fields_at f l at turns e =
    let w = (thread_row f).size in
    let p0 = sym (part-first l at w (omega (arith, entry-least f))) in
    let p1 = sym (part-byte l at w 1 (omega (arith, entry-least f))) in
    let p2 = sym (part-byte l at w 2 (omega (arith, entry-least f))) in
    let p3 = sym (part-byte l at w 3 (omega (arith, entry-least f))) in
    (λ i. fields (p0 i) (p1 i) (p2 i) (p3 i) (e i))

-- Fixed places.

module _ (s : Shape) (k : Kind) where
  abbrev start : ℕ
  start = start_of s (order_of k)

  -- the bodies of a kind stand one record apart
  pub fixed-place : (first size : ℕ) → first ≡ body_place (row_of s k) start 0 → size ≡ record_size (row_of s k) → (i : ℕ) → first + size * i ≡ body_place (row_of s k) start i
  fixed-place first size e f i = (λ n. e n + f n * i) ∙ omega arith

  pub body-room-in : (n i len : ℕ) → order_of k < n → i < (row_of s k).count → start_of s n ≤ len → body_place (row_of s k) start i + (row_of s k).size ≤ len
  body-room-in n i len l h e = omega (arith, record-room (row_of s k) start i (start_of s n) h (kind-room-in s k n l))

  pub body-room : (i len : ℕ) → i < (row_of s k).count → start_of s kinds ≤ len → body_place (row_of s k) start i + (row_of s k).size ≤ len
  body-room i len h e = body-room-in kinds i len (order-few k) h e

-- The entries.

-- the entry at a place
abbrev pub entry_at : Form → List ℕ → ℕ → Answer Thread
entry_at f l p = thread_of (fields_in (take (thread_row f).size (drop p l)))

entry_in_lem : (s : Shape) (l : List ℕ) (t p : ℕ) → p ≡ body_place (row_of s Ti) (start_of s (order_of Ti)) t → entry_at s.form l p ≡ entry_in s l t
unfolding entry_in body_at
entry_in_lem s l t p e = ap (entry_at s.form l) e

module _ (s : Shape) (l : List ℕ) (at size : ℕ) (place : (t : ℕ) → at + size * t ≡ body_place (row_of s Ti) (start_of s (order_of Ti)) t) where
  pub entries-read : all_below 8 (λ t. is_entry (entry_at s.form l (at + size * t))) ≡ all_below 8 (λ t. is_entry (entry_in s l t))
  entries-read = all_same 8 _ _ (λ t h. ap is_entry (entry_in_lem s l t (at + size * t) (place t)))

  entries-same : concat_below 8 (λ t. entry_or (entry_at s.form l (at + size * t)) ∷ []) ≡ threads_in s l
  unfolding threads_in
  entries-same = concat_below-same 8 _ _ (λ t h. ap (λ e. entry_or e ∷ []) (entry_in_lem s l t (at + size * t) (place t)))

  pub threads-read : {m n : List Thread} {p : ℕ} → length m ≡ 8 → Grown m n 0 p (concat_below 8 (λ t. entry_or (entry_at s.form l (at + size * t)) ∷ [])) → n ≡ threads_in s l
  threads-read h g = grown-whole g (length-even 8 1 (λ t. entry_or (entry_at s.form l (at + size * t)) ∷ []) (λ _ _. refl) ∙ sym h) ∙ entries-same

-- The record.

module _ (s : Shape) (l : List ℕ) (at : ℕ) (place : at ≡ body_place (row_of s Hd) (start_of s (order_of Hd)) 0) (threads : List Thread) (same : threads ≡ threads_in s l) where
  pub machine-read : record { enabled = get_or l (at + 1) 0; last = get_or l at 0; threads = threads } ≡ machine_in s l
  unfolding machine_in body_at
  machine-read =
      let p = body_place (row_of s Hd) (start_of s (order_of Hd)) 0 in
      let e : get_or l (at + 1) 0 ≡ get_or (take 2 (drop p l)) 1 0 = ap (λ z. get_or l (z + 1) 0) place ∙ sym (part-byte l p 2 1 (omega arith)) in
      let f : get_or l at 0 ≡ get_or (take 2 (drop p l)) 0 0 = ap (λ z. get_or l z 0) place ∙ sym (part-first l p 2 (omega arith)) in
      (λ i. record { enabled = e i; last = f i; threads = same i })

pub record-read : (s : Shape) (l : List ℕ) (m : Machine) (a b : Bool) → a ≡ all_below 8 (λ t. is_entry (entry_in s l t)) → m ≡ machine_in s l → b ≡ well_formed m → (a && b) ≡ record_in s l
unfolding record_in
record-read s l m a b e f g = (λ i. e i && (g ∙ ap well_formed f) i)

pub record-unread : (s : Shape) (l : List ℕ) → all_below 8 (λ t. is_entry (entry_in s l t)) ≡ false → record_in s l ≡ false
unfolding record_in
record-unread s l h = rw h

-- a value that is given if a test holds: what the test says by what was given
pub given_if-refused : {A : Type 0} (b : Bool) (n : ℕ) (x : A) → refused n ≡ given_if b x → (b ≡ false) × (n ≡ bad-record)
given_if-refused true n x e = absurd (let z : ◌≡◌ {A = ℕ} 0 1 = cc in omega arith)
given_if-refused false n x e = (refl, cc)

pub given_if-given : {A : Type 0} (b : Bool) (y x : A) → given y ≡ given_if b x → (b ≡ true) × (y ≡ x)
given_if-given true y x e = (refl, cc)
given_if-given false y x e = absurd (let z : ◌≡◌ {A = ℕ} 0 1 = cc in omega arith)
