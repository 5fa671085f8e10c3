-- Laws of tests taken together, and of the tests of each number below one.
use Prim.Native.Nat.{ℕ, zero, suc, ◌+◌, ◌≤◌, ◌<◌}
use mathlib.Core.Bool.{Bool, true, false, ◌&&◌, false≢true, and-eq-true_iff}
use mathlib.Core.Logic.{◌⊎◌, inl, inr, ⊎_elim}
use mathlib.Core.Path.{◌≡◌, refl, sym, ◌∙◌}
use native.Mathlib.Decide.{ℕ_discrete}
use native.Mathlib.Numerals.{add-one}
use native.Mathlib.Omega.{arith}
use Rattle.image_layout.specs.Join.{all_below}

pub at-or-below : (i n : ℕ) → i < suc n → (i ≡ n) ⊎ (i < n)
at-or-below i n h = go (ℕ_discrete i n)
  where
    go : Dec (i ≡ n) → (i ≡ n) ⊎ (i < n)
    go (yes e) = inl e
    go (no e) = inr (omega arith)

pub two : (a b : Bool) → a ≡ true → b ≡ true → (a && b) ≡ true
two a b e f = rw (e, f)

one-fails : (a b : Bool) → b ≡ false → (a && b) ≡ false
one-fails true b h = h
one-fails false b h = refl

pub all-intro : (n : ℕ) (p : ℕ → Bool) → ((i : ℕ) → i < n → p i ≡ true) → all_below n p ≡ true
unfolding all_below
all-intro zero p h = refl
all-intro (suc n) p h = two (all_below n p) (p n) (all-intro n p (λ i l. h i (omega arith))) (h n (omega arith))

pub all-elim : (n : ℕ) (p : ℕ → Bool) → all_below n p ≡ true → (i : ℕ) → i < n → p i ≡ true
unfolding all_below
all-elim zero p h i l = absurd (omega arith)
all-elim (suc n) p h i l =
    let k = (and-eq-true_iff (all_below n p) (p n)).0 h in
    ⊎_elim (λ e. rw e k.1) (λ b. all-elim n p k.0 i b) (at-or-below i n l)

-- a test of all of them at once
pub all-tested : (n : ℕ) (p : ℕ → Bool) (b : Bool) → (b ≡ true → (i : ℕ) → i < n → p i ≡ true) → (((i : ℕ) → i < n → p i ≡ true) → b ≡ true) → b ≡ all_below n p
all-tested n p true f g = sym (all-intro n p (f refl))
all-tested n p false f g = sym (go (all_below n p) (λ e. g (all-elim n p e)))
  where
    go : (b : Bool) → (b ≡ true → false ≡ true) → b ≡ false
    go true h = absurd (false≢true (h refl))
    go false h = refl

-- a loop that stops at the first that fails

pub all_none : (p : ℕ → Bool) → all_below 0 p ≡ true
unfolding all_below
all_none p = refl

pub all-next : (k : ℕ) (p : ℕ → Bool) → all_below (k + 1) p ≡ (all_below k p && p k)
unfolding all_below
all-next k p = rw (add-one k)

pub all_more : (k : ℕ) (p : ℕ → Bool) → all_below k p ≡ true → p k ≡ true → all_below (k + 1) p ≡ true
all_more k p h g = rw (all-next k p) (two (all_below k p) (p k) h g)

pub all-less : (n k : ℕ) (p : ℕ → Bool) → k < n → p k ≡ false → all_below n p ≡ false
all-less n k p l h = go (all_below n p) (λ e. all-elim n p e k l)
  where
    go : (b : Bool) → (b ≡ true → p k ≡ true) → b ≡ false
    go true f = absurd (false≢true (sym h ∙ f refl))
    go false f = refl

pub all-stop : (k n : ℕ) (p : ℕ → Bool) → k ≤ n → n ≤ k → all_below k p ≡ true → all_below n p ≡ true
all-stop k n p a b h = let e : k ≡ n = omega arith in rw e at h

pub all_same : (n : ℕ) (p q : ℕ → Bool) → ((i : ℕ) → i < n → p i ≡ q i) → all_below n p ≡ all_below n q
unfolding all_below
all_same zero p q h = refl
all_same (suc n) p q h = (λ i. all_same n p q (λ k l. h k (omega arith)) i && h n (omega arith) i)
