-- What holds of every row of the table: a case for each kind, once; and the lengths that follow from it.
use Prim.Native.Nat.{ℕ, zero, suc, ◌+◌, ◌*◌, ◌%◌, ◌≤◌, ◌<◌}
use mathlib.Core.List.{List, [], ◌∷◌}
use mathlib.Core.Path.{◌≡◌, refl, ap}
use native.Mathlib.Nat.{mul-suc}
use native.Mathlib.Numerals.{add-one}
use native.Mathlib.Omega.{arith}
use lib.ListN.{length, get_or, length-append}
use borrow.Author.Tests.{eq-eqb, ne_eqb}
use Rattle.answer.specs.Refusal.{block_record, image_length}
use Rattle.image_layout.specs.Join.{total, concat_below}
use Rattle.image_layout.specs.Layout.{fixed_of, form_of, of_blocks, kinds, thread_row, row_of, kind_at, position_in, order_of, places_of, places_length, head_length, head_of, record_size, extent_of, record_of, section_of, laid_out, start_of, record_at}
use Rattle.image_layout.specs.Types.{Kind, Hd, Ti, Sr, Vr, Mm, Places, Nothing, ByThread, ByRegister, ByBlock, Form, Newest, Old, Shape, RecordRow}
use Rattle.image_layout.proofs.Join.{length-even, length-concat_below, total-le, fits_in}

places-length : (p : Places) (i : ℕ) → length (places_of p i) ≡ places_length p
places-length Nothing i = refl
places-length ByThread i = refl
places-length ByRegister i = refl
places-length ByBlock i = refl

pub places-few : (p : Places) → places_length p ≤ 2
places-few Nothing = omega arith
places-few ByThread = omega arith
places-few ByRegister = omega arith
places-few ByBlock = omega arith

pub head-length : (r : RecordRow) (i : ℕ) → length (head_of r i) ≡ head_length r.places
head-length r i = omega (arith, places-length r.places i)

-- the rows of a thread's entry, in each form
pub threads : (f : Form) → (thread_row f).count ≡ 8
threads Newest = refl
threads Old = refl

pub by-thread : (f : Form) → (thread_row f).places ≡ ByThread
by-thread Newest = refl
by-thread Old = refl

pub entry-most : (f : Form) → (thread_row f).size ≤ 8
entry-most Newest = omega arith
entry-most Old = omega arith

pub entry-least : (f : Form) → 4 ≤ (thread_row f).size
entry-least Newest = omega arith
entry-least Old = omega arith

entries-few : (f : Form) → extent_of (thread_row f) ≤ 88
entries-few Newest = omega arith
entries-few Old = omega arith

pub size_few : (s : Shape) (k : Kind) → (row_of s k).size ≤ 256
size_few s Hd = omega arith
size_few s Ti = omega (arith, entry-most s.form)
size_few s Sr = omega arith
size_few s Vr = omega arith
size_few s Mm = omega arith

pub extent-few : (s : Shape) (k : Kind) → s.blocks ≤ 65535 → extent_of (row_of s k) ≤ 4456380
extent-few s Hd h = omega arith
extent-few s Ti h = omega (arith, entries-few s.form)
extent-few s Sr h = omega arith
extent-few s Vr h = omega arith
extent-few s Mm h = omega arith

-- a kind stands at its position
pub kind-order : (k : Kind) → kind_at (order_of k) ≡ k
unfolding order_of position_in
kind-order Hd = refl
kind-order Ti = refl
kind-order Sr = refl
kind-order Vr = refl
kind-order Mm = refl

pub order-few : (k : Kind) → order_of k < kinds
unfolding order_of position_in
order-few Hd = omega arith
order-few Ti = omega arith
order-few Sr = omega arith
order-few Vr = omega arith
order-few Mm = omega arith

-- past the last of them the first is named
pub past-kinds : (q : ℕ) → kinds ≤ q → Hd ≡ kind_at q
past-kinds zero h = absurd (omega arith)
past-kinds (suc zero) h = absurd (omega arith)
past-kinds (suc (suc zero)) h = absurd (omega arith)
past-kinds (suc (suc (suc zero))) h = absurd (omega arith)
past-kinds (suc (suc (suc (suc zero)))) h = absurd (omega arith)
past-kinds (suc (suc (suc (suc (suc q))))) h = refl

-- the count of the kind at a position, from a list of the counts in order
module _ (s : Shape) (hd ti sr vr mm : ℕ) (e : hd ≡ (row_of s Hd).count) (f : ti ≡ (row_of s Ti).count) (g : sr ≡ (row_of s Sr).count) (h : vr ≡ (row_of s Vr).count) (k : mm ≡ (row_of s Mm).count) where
  pub count-listed : (q : ℕ) → q < kinds → get_or (hd ∷ ti ∷ sr ∷ vr ∷ mm ∷ []) q 0 ≡ (row_of s (kind_at q)).count
  count-listed zero l = e
  count-listed (suc zero) l = f
  count-listed (suc (suc zero)) l = g
  count-listed (suc (suc (suc zero))) l = h
  count-listed (suc (suc (suc (suc zero)))) l = k
  count-listed (suc (suc (suc (suc (suc q))))) l = absurd (omega arith)

-- HD and TI are the first two
pub hd-order : order_of Hd ≡ 0
unfolding order_of position_in
hd-order = refl

pub ti-order : order_of Ti ≡ 1
unfolding order_of position_in
ti-order = refl

-- Lengths, over any row.

module _ (r : RecordRow) (body : ℕ → List ℕ) (even : (i : ℕ) → i < r.count → length (body i) ≡ r.size) where
  pub record-length : (i : ℕ) → i < r.count → length (record_of r body i) ≡ record_size r
  unfolding record_of
  record-length i h = omega (arith, length-append (head_of r i) (body i), head-length r i, even i h)

  pub section-length : length (section_of r body) ≡ extent_of r
  unfolding section_of
  section-length = length-even r.count (record_size r) (record_of r body) record-length

-- a record, its head and its body end within the records of its kind
pub record-room : (r : RecordRow) (at i len : ℕ) → i < r.count → at + extent_of r ≤ len → record_at r at i + record_size r ≤ len
record-room r at i len h e = omega (arith, fits_in (record_size r) i r.count h)

-- the next record begins where one ends
pub record-next : (r : RecordRow) (at i : ℕ) → record_at r at i + record_size r ≡ record_at r at (i + 1)
record-next r at i = omega (arith, mul-suc (record_size r) i, ap (λ n. record_size r * n) (add-one i))

-- the whole length, as the paper says it
whole : (f : Form) (blocks : ℕ) → start_of (of_blocks f blocks) kinds ≡ fixed_of f + block_record * blocks
unfolding start_of total
whole Newest blocks = omega arith
whole Old blocks = omega arith

pub whole_length : (s : Shape) → start_of s kinds ≡ fixed_of s.form + block_record * s.blocks
whole_length s = whole s.form s.blocks

pub fixed-few : (f : Form) → fixed_of f ≤ 36980
fixed-few Newest = omega arith
fixed-few Old = omega arith

-- and it says the form
pub form-told : (f : Form) (bytes : ℕ) → form_of (image_length (fixed_of f) bytes) ≡ f
form-told Newest bytes = rw (ne_eqb (image_length (fixed_of Newest) bytes % block_record) 24 (λ e. omega arith))
form-told Old bytes = rw (eq-eqb (image_length (fixed_of Old) bytes % block_record) 24 (omega arith))

-- where kinds begin, one after the other, and that each ends within the image
pub start_none : (s : Shape) → 0 ≡ start_of s 0
unfolding start_of total
start_none s = refl

pub start-next : (s : Shape) (q : ℕ) → start_of s (q + 1) ≡ start_of s q + extent_of (row_of s (kind_at q))
unfolding start_of total
start-next s q = rw (add-one q)

pub start-room : (s : Shape) (q n : ℕ) → q < n → start_of s q + extent_of (row_of s (kind_at q)) ≤ start_of s n
unfolding start_of total
start-room s q n h = total-le (suc q) n (λ p. extent_of (row_of s (kind_at p))) (omega arith)

pub start-few : (s : Shape) (q n : ℕ) → q ≤ n → start_of s q ≤ start_of s n
unfolding start_of
start-few s q n h = total-le q n (λ p. extent_of (row_of s (kind_at p))) h

pub kind-room-in : (s : Shape) (k : Kind) (n : ℕ) → order_of k < n → start_of s (order_of k) + extent_of (row_of s k) ≤ start_of s n
kind-room-in s k n l = let h = start-room s (order_of k) n l in rw (kind-order k) at h

pub kind-room : (s : Shape) (k : Kind) → start_of s (order_of k) + extent_of (row_of s k) ≤ start_of s kinds
kind-room s k = kind-room-in s k kinds (order-few k)

-- the kinds in order, end to end
abbrev pub section_at : Shape → (Kind → ℕ → List ℕ) → ℕ → List ℕ
section_at s body q = section_of (row_of s (kind_at q)) (body (kind_at q))

pub sections-up-to : (s : Shape) (body : Kind → ℕ → List ℕ) (n : ℕ)
    → ((q : ℕ) → q < n → (i : ℕ) → i < (row_of s (kind_at q)).count → length (body (kind_at q) i) ≡ (row_of s (kind_at q)).size)
    → (q : ℕ) → q ≤ n → length (concat_below q (section_at s body)) ≡ start_of s q
unfolding start_of
sections-up-to s body n even q h =
    length-concat_below q (section_at s body) (λ p. extent_of (row_of s (kind_at p))) (λ p l. section-length (row_of s (kind_at p)) (body (kind_at p)) (even p (omega arith)))

module _ (s : Shape) (body : Kind → ℕ → List ℕ) (even : (k : Kind) (i : ℕ) → i < (row_of s k).count → length (body k i) ≡ (row_of s k).size) where
  pub sections-length : (q : ℕ) → length (concat_below q (section_at s body)) ≡ start_of s q
  sections-length q = sections-up-to s body q (λ p _. even (kind_at p)) q (omega arith)

  pub laid-length : length (laid_out s body) ≡ start_of s kinds
  unfolding laid_out
  laid-length = sections-length kinds
