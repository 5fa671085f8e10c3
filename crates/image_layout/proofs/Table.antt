-- The two laws of the table, over any row: what was laid out is read at its fixed places, and what is read there lays out to the same bytes.
use Prim.Native.Nat.{ℕ, zero, suc, ◌+◌, ◌*◌, ◌≤◌, ◌<◌}
use mathlib.Core.Bool.{true, and-eq-true_iff}
use mathlib.Core.List.{List, [], ◌∷◌, ◌++◌}
use mathlib.Core.Path.{◌≡◌, refl, sym, ap, ◌∙◌}
use native.Mathlib.Numerals.{add-one}
use native.Mathlib.Omega.{arith}
use borrow.Author.Tests.{eq-eqb, eqb-true}
use lib.Dec.{eqb}
use lib.ListN.{length, get_or, take, drop}
use lib.Seq.{take_all, take-add, take_at, drop-drop, drop_at, get_or-drop, get_or-take}
use Rattle.image_layout.specs.Join.{concat_below}
use Rattle.image_layout.specs.Layout.{kinds, row_of, kind_at, position_in, order_of, head_length, head_of, record_size, extent_of, record_of, section_of, laid_up_to, laid_out, start_of, record_at, body_at, body_in, stands_at, heads_of, heads_up_to, heads_in}
use Rattle.image_layout.specs.Types.{Kind, Shape, RecordRow}
use Rattle.image_layout.proofs.Join.{fits_in}
use Rattle.image_layout.proofs.Parts.{cut-take, concat_below-same, piece, pieces, piece-even, pieces-even}
use Rattle.image_layout.proofs.Rows.{head-length, record-length, record-room, section-length, section_at, start-room, kind-order, order-few}
use Rattle.image_layout.proofs.Tests.{two, all-intro, all-elim}

-- A test at a place.

-- the list from a place on that has something there
drop-one : (l : List ℕ) (p : ℕ) → p < length l → drop p l ≡ get_or l p 0 ∷ drop (suc p) l
drop-one [] p h = absurd (omega arith)
drop-one (x ∷ l) zero h = refl
drop-one (x ∷ l) (suc p) h = drop-one l p (omega arith)

stands-each : (h l : List ℕ) (p : ℕ) → ((k : ℕ) → k < length h → get_or l (p + k) 0 ≡ get_or h k 0) → stands_at h l p ≡ true
unfolding stands_at
stands-each [] l p e = refl
stands-each (x ∷ h) l p e =
    two (eqb (get_or l p 0) x) (stands_at h l (p + 1))
    (eq-eqb _ _ (ap (λ z. get_or l z 0) (let z : p ≡ p + 0 = omega arith in z) ∙ e 0 (omega arith)))
    (stands-each h l (p + 1) (λ k t. ap (λ z. get_or l z 0) (let z : p + 1 + k ≡ p + suc k = omega arith in z) ∙ e (suc k) (omega arith)))

pub stands-true : (h l : List ℕ) (p : ℕ) → take (length h) (drop p l) ≡ h → stands_at h l p ≡ true
stands-true h l p e =
    stands-each h l p (λ k t. sym (get_or-drop p l k 0) ∙ (sym (get_or-take (length h) (drop p l) k 0 t) ∙ ap (λ z. get_or z k 0) e))

pub stands-means : (h l : List ℕ) (p : ℕ) → p + length h ≤ length l → stands_at h l p ≡ true → take (length h) (drop p l) ≡ h
unfolding stands_at
stands-means [] l p room e = refl
stands-means (x ∷ h) l p room e =
    let b = (and-eq-true_iff (eqb (get_or l p 0) x) (stands_at h l (p + 1))).0 e in
    rw (drop-one l p (omega arith), eqb-true (get_or l p 0) x b.0, ← add-one p) (ap (λ z. x ∷ z) (stands-means h l (p + 1) (omega arith) b.1))

-- What was laid out is read.

module _ (r : RecordRow) (body : ℕ → List ℕ) (even : (i : ℕ) → i < r.count → length (body i) ≡ r.size) (at : ℕ) (l : List ℕ) (here : take (extent_of r) (drop at l) ≡ section_of r body) where
  -- a part of record i
  in-record : (i x a : ℕ) → i < r.count → x + a ≤ record_size r → take a (drop (record_at r at i + x) l) ≡ take a (drop x (record_of r body i))
  unfolding section_of
  in-record i x a h k =
      let z : record_at r at i + x ≡ at + (record_size r * i + x) = omega arith in
      let q : record_size r * i + x + a ≤ extent_of r = omega (arith, fits_in (record_size r) i r.count h) in
      ap (λ n. take a (drop n l)) z
      ∙ (ap (take a) (sym (drop-drop (record_size r * i + x) at l))
      ∙ (sym (cut-take (record_size r * i + x) a (extent_of r) (drop at l) q)
      ∙ (ap (λ m. take a (drop (record_size r * i + x) m)) here
      ∙ (ap (take a) (sym (drop-drop x (record_size r * i) (section_of r body)))
      ∙ (sym (cut-take x a (record_size r) (drop (record_size r * i) (section_of r body)) k)
      ∙ ap (λ m. take a (drop x m)) (piece-even r.count i (record_size r) (record_of r body) (record-length r body even) h))))))

  pub body-read : (i : ℕ) → i < r.count → body_at r at l i ≡ body i
  unfolding body_at record_of
  body-read i h =
      in-record i (head_length r.places) r.size h (omega arith)
      ∙ (ap (take r.size) (drop_at (head_of r i) (body i) (head_length r.places) (head-length r i))
      ∙ take_all r.size (body i) (omega (arith, even i h)))

  pub heads-read : heads_of r l at ≡ true
  unfolding heads_of record_of
  heads-read =
      all-intro r.count (λ i. stands_at (head_of r i) l (record_at r at i))
      (λ i h. stands-true (head_of r i) l (record_at r at i)
      (ap (λ n. take n (drop (record_at r at i) l)) (head-length r i)
      ∙ (ap (λ n. take (head_length r.places) (drop n l)) (let z : record_at r at i ≡ record_at r at i + 0 = omega arith in z)
      ∙ (in-record i 0 (head_length r.places) h (omega arith) ∙ take_at (head_of r i) (body i) (head_length r.places) (head-length r i)))))

-- What is read lays out to the same bytes.

module _ (r : RecordRow) (at : ℕ) (l : List ℕ) (ok : heads_of r l at ≡ true) (room : at + extent_of r ≤ length l) where
  record-back : (i : ℕ) → i < r.count → record_of r (body_at r at l) i ≡ take (record_size r) (drop (record_at r at i) l)
  unfolding record_of body_at heads_of
  record-back i h =
      let p = record_at r at i in
      let s : stands_at (head_of r i) l p ≡ true = all-elim r.count (λ i. stands_at (head_of r i) l (record_at r at i)) ok i h in
      let q : p + record_size r ≤ length l = record-room r at i (length l) h room in
      let m : p + length (head_of r i) ≤ length l = rw (head-length r i) (omega arith) in
      let a : head_of r i ≡ take (head_length r.places) (drop p l) = sym (stands-means (head_of r i) l p m s) ∙ ap (λ n. take n (drop p l)) (head-length r i) in
      ap (λ z. z ++ take r.size (drop (p + head_length r.places) l)) a
      ∙ (ap (λ z. take (head_length r.places) (drop p l) ++ take r.size z) (sym (drop-drop (head_length r.places) p l))
      ∙ sym (take-add (head_length r.places) r.size (drop p l)))

  pub section-back : section_of r (body_at r at l) ≡ take (extent_of r) (drop at l)
  unfolding section_of
  section-back =
      concat_below-same r.count (record_of r (body_at r at l)) (λ i. take (record_size r) (drop (at + record_size r * i) l)) record-back
      ∙ pieces-even r.count (record_size r) at l

section-same : (r : RecordRow) (f g : ℕ → List ℕ) → ((i : ℕ) → i < r.count → f i ≡ g i) → section_of r f ≡ section_of r g
unfolding section_of record_of
section-same r f g h =
    concat_below-same r.count (λ i. head_of r i ++ f i) (λ i. head_of r i ++ g i) (λ i k. ap (λ z. head_of r i ++ z) (h i k))

-- The first n kinds.

module _ (n : ℕ) (s : Shape) (body : Kind → ℕ → List ℕ) (even : (q : ℕ) → q < n → (i : ℕ) → i < (row_of s (kind_at q)).count → length (body (kind_at q) i) ≡ (row_of s (kind_at q)).size) where
  kind-here : (q : ℕ) → q < n → take (extent_of (row_of s (kind_at q))) (drop (start_of s q) (laid_up_to n s body)) ≡ section_at s body q
  unfolding start_of
  kind-here q h = piece n q (section_at s body) (λ p. extent_of (row_of s (kind_at p))) (λ p l. section-length (row_of s (kind_at p)) (body (kind_at p)) (even p l)) h

  -- writing, then reading: every body is found at its fixed place
  pub body-up-to : (q : ℕ) → q < n → (i : ℕ) → i < (row_of s (kind_at q)).count → body_at (row_of s (kind_at q)) (start_of s q) (laid_up_to n s body) i ≡ body (kind_at q) i
  body-up-to q l = body-read (row_of s (kind_at q)) (body (kind_at q)) (even q l) (start_of s q) (laid_up_to n s body) (kind-here q l)

  -- and every mark and place number is right
  pub heads-up-to : heads_up_to n s (laid_up_to n s body) ≡ true
  heads-up-to =
      all-intro n (λ q. heads_of (row_of s (kind_at q)) (laid_up_to n s body) (start_of s q))
      (λ q l. heads-read (row_of s (kind_at q)) (body (kind_at q)) (even q l) (start_of s q) (laid_up_to n s body) (kind-here q l))

-- The whole image.

module _ (s : Shape) (body : Kind → ℕ → List ℕ) (even : (k : Kind) (i : ℕ) → i < (row_of s k).count → length (body k i) ≡ (row_of s k).size) where
  pub laid-body : (k : Kind) (i : ℕ) → i < (row_of s k).count → body_in s (laid_out s body) k i ≡ body k i
  unfolding laid_out
  laid-body k = rw (kind-order k) at (body-up-to kinds s body (λ q _. even (kind_at q)) (order_of k) (order-few k))

  pub laid-heads : heads_in s (laid_out s body) ≡ true
  unfolding heads_in laid_out
  laid-heads = heads-up-to kinds s body (λ q _. even (kind_at q))

kinds-back : (s : Shape) (l : List ℕ) → concat_below kinds (λ q. take (extent_of (row_of s (kind_at q))) (drop (start_of s q) l)) ≡ take (start_of s kinds) l
unfolding start_of
kinds-back s l = pieces kinds (λ p. extent_of (row_of s (kind_at p))) l

at-order : (q : ℕ) → q < kinds → order_of (kind_at q) ≡ q
unfolding order_of position_in
at-order zero h = refl
at-order (suc zero) h = refl
at-order (suc (suc zero)) h = refl
at-order (suc (suc (suc zero))) h = refl
at-order (suc (suc (suc (suc zero)))) h = refl
at-order (suc (suc (suc (suc (suc q))))) h = absurd (omega arith)

-- reading, then writing: the bodies of an image with right marks and place numbers lay out to that image
pub laid-back : (s : Shape) (l : List ℕ) (body : Kind → ℕ → List ℕ) → start_of s kinds ≡ length l → heads_in s l ≡ true
    → ((k : Kind) (i : ℕ) → i < (row_of s k).count → body k i ≡ body_in s l k i)
    → laid_out s body ≡ l
unfolding laid_out heads_in
laid-back s l body len ok same =
    concat_below-same kinds (section_at s body) (λ q. take (extent_of (row_of s (kind_at q))) (drop (start_of s q) l))
    (λ q h. section-same (row_of s (kind_at q)) (body (kind_at q)) (body_at (row_of s (kind_at q)) (start_of s q) l)
    (λ i k. same (kind_at q) i k ∙ ap (λ z. body_at (row_of s (kind_at q)) (start_of s z) l i) (at-order q h))
    ∙ section-back (row_of s (kind_at q)) (start_of s q) l (all-elim kinds (λ q. heads_of (row_of s (kind_at q)) l (start_of s q)) ok q h) (omega (arith, start-room s q kinds h)))
    ∙ (kinds-back s l ∙ take_all (start_of s kinds) l (omega arith))
