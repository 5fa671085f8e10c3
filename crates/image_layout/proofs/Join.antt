-- Laws of lists laid end to end, and of a lent list that grows.
use Prim.Native.Nat.{ℕ, zero, suc, ◌+◌, ◌*◌, ◌≤◌, ◌<◌}
use mathlib.Core.Path.{◌≡◌, refl, sym, ap, ◌∙◌}
use mathlib.Core.List.{List, [], ◌∷◌, ◌++◌, append_assoc, append-nil}
use mathlib.Core.Logic.{⊎_elim}
use native.Mathlib.Omega.{arith}
use native.Mathlib.Numerals.{add-one}
use native.Mathlib.Nat.{mul-suc, mul-le-mul_left}
use lib.ListN.{length, take, drop, set, length-append, length-set}
use lib.Seq.{take-suc-set, take_all, take-add, drop-drop}
use Rattle.image_layout.specs.Join.{concat_below, total, Grown}
use Rattle.image_layout.proofs.Tests.{at-or-below}

-- Growing.

pub grown-none : {A : Type 0} (l : List A) (at : ℕ) → Grown l l at at []
grown-none l at = record { size = refl; next = omega arith; kept = sym (append-nil (take at l)) }

pub grown-one : {A : Type 0} (l : List A) (at : ℕ) (x : A) → at < length l → Grown l (set l at x) at (at + 1) (x ∷ [])
grown-one l at x h = record { size = length-set l at x; next = refl; kept = rw add-one (take-suc-set l at x h) }

pub grown-more : {A : Type 0} {l r s : List A} {at p q : ℕ} {x y : List A} → Grown l r at p x → Grown r s p q y → Grown l s at q (x ++ y)
grown-more {l = l} {at = at} {x = x} {y = y} g h = record {
  size = h.size ∙ g.size;
  next = omega (arith, g.next, h.next, length-append x y);
  kept = h.kept ∙ (ap (λ z. z ++ y) g.kept ∙ append_assoc (take at l) x y);
}

pub grown-same : {A : Type 0} {l r : List A} {at p : ℕ} {x : List A} (q : ℕ) → p ≡ q → Grown l r at p x → Grown l r at q x
grown-same q e g = rw e at g

-- one more piece of those laid end to end
pub grown-join : {A : Type 0} {l r s : List A} {at p q : ℕ} (j : ℕ) (f : ℕ → List A) → Grown l r at p (concat_below j f) → Grown r s p q (f j) → Grown l s at q (concat_below (j + 1) f)
unfolding concat_below
grown-join j f g h = rw add-one (grown-more g h)

pub grown-start : {A : Type 0} (l : List A) (at : ℕ) (f : ℕ → List A) → Grown l l at at (concat_below 0 f)
unfolding concat_below
grown-start l at f = grown-none l at

pub grown-end : {A : Type 0} {l r : List A} {at p : ℕ} (j n : ℕ) (f : ℕ → List A) → Grown l r at p (concat_below j f) → j ≤ n → n ≤ j → Grown l r at p (concat_below n f)
grown-end j n f g a b = let e : j ≡ n = omega arith in rw e at g

-- all of it
pub grown-whole : {A : Type 0} {l r : List A} {p : ℕ} {x : List A} → Grown l r 0 p x → length x ≡ length l → r ≡ x
grown-whole {l = l} {r} {p} {x} g h = sym (take_all p r (let e : length r ≤ p = omega (arith, g.size, g.next) in e)) ∙ g.kept

-- Lengths.

pub length-concat_below : {A : Type 0} (n : ℕ) (f : ℕ → List A) (g : ℕ → ℕ) → ((i : ℕ) → i < n → length (f i) ≡ g i) → length (concat_below n f) ≡ total n g
unfolding concat_below total
length-concat_below zero f g h = refl
length-concat_below (suc n) f g h =
    let a = length-concat_below n f g (λ i l. h i (omega arith)) in
    let b = h n (omega arith) in
    omega (arith, length-append (concat_below n f) (f n))

pub total-same : (n s : ℕ) → total n (λ _. s) ≡ s * n
unfolding total
total-same zero s = omega arith
total-same (suc n) s = omega (arith, total-same n s, mul-suc s n)

-- pieces of one size
pub length-even : {A : Type 0} (n s : ℕ) (f : ℕ → List A) → ((i : ℕ) → i < n → length (f i) ≡ s) → length (concat_below n f) ≡ s * n
length-even n s f h = length-concat_below n f (λ _. s) h ∙ total-same n s

-- the i-th of n pieces of one size ends within them
pub fits_in : (s i n : ℕ) → i < n → s * i + s ≤ s * n
fits_in s i n h = let e : s * suc i ≤ s * n = mul-le-mul_left s (let l : suc i ≤ n = omega arith in l) in omega (arith, mul-suc s i)

pub total-le : (q n : ℕ) (g : ℕ → ℕ) → q ≤ n → total q g ≤ total n g
unfolding total
total-le q zero g h = let e : q ≡ 0 = omega arith in rw e (omega arith)
total-le q (suc n) g h = ⊎_elim (λ e. rw e (omega arith)) (λ l. omega (arith, total-le q n g (let m : q ≤ n = omega arith in m))) (at-or-below q (suc n) (let l : q < suc (suc n) = omega arith in l))

-- room for one more piece of one size
pub room_for : {A : Type 0} {l r : List A} {at p : ℕ} (s j n : ℕ) (f : ℕ → List A) → Grown l r at p (concat_below j f) → ((i : ℕ) → i < n → length (f i) ≡ s) → j < n → at + s * n ≤ length l → p + s ≤ length r
room_for s j n f g h t b = omega (arith, g.size, g.next, length-even j s f (λ i k. h i (omega arith)), fits_in s j n t)

-- the same of other words for what is stored
pub grown-new : {A : Type 0} {l r x y : List A} {at p : ℕ} → x ≡ y → Grown l r at p x → Grown l r at p y
grown-new e g = rw e at g

-- sixteen more
pub grown-sixteens : {l r s : List ℕ} (at p k : ℕ) (m : List ℕ) → Grown l r at (at + 16 * k) (take (16 * k) (drop p m)) → Grown r s (at + 16 * k) (at + 16 * k + 16) (take 16 (drop (p + 16 * k) m))
    → Grown l s at (at + 16 * (k + 1)) (take (16 * (k + 1)) (drop p m))
grown-sixteens at p k m g h =
    let e : 16 * (k + 1) ≡ 16 * k + 16 = omega arith in
    let x : take (16 * k) (drop p m) ++ take 16 (drop (p + 16 * k) m) ≡ take (16 * (k + 1)) (drop p m) =
    ap (λ z. take (16 * k) (drop p m) ++ take 16 z) (sym (drop-drop (16 * k) p m)) ∙ (sym (take-add (16 * k) 16 (drop p m)) ∙ ap (λ n. take n (drop p m)) (sym e)) in
    grown-same {p = at + 16 * k + 16} (at + 16 * (k + 1)) (omega arith) (grown-new x (grown-more g h))
