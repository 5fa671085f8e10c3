-- Two floats compared: equal are those of which neither is less, and finite ones are in the order of the numbers that they stand for.
use mathlib.Core.Path.{◌≡◌, refl, sym, ap, ap₂, ◌∙◌, subst}
use mathlib.Core.Bool.{Bool, true, false, not, ◌&&◌, ◌||◌}
use Prim.Native.Nat.{ℕ, zero, suc, ◌+◌, ◌*◌, ◌<◌, ◌≤◌}
use native.Mathlib.Nat.{add_comm, mul_assoc, mul_comm, mul_right_comm, mul-pos, mul-le-mul_right, lt_of_lt_of_le, add-mul, suc-mul, zero-mul}
use native.Mathlib.Omega.{arith}
use borrow.Author.Tests.{lt-ltb, le-ltb, eq-eqb, ne_eqb, ltb-true, ltb-false}
use lib.Dec.{ltb, eqb}
use lib.Signed.{lt_z}
use lib.Ieee as Ieee
use lib.Ieee.{Float, nan, inf, fin, up, down, below, level}
use lib.Ieee.Exact.{HasValue}
use lib.Ieee.Fits.{down_pos}
use Rattle.float.specs.Nearest.{whole}
use Rattle.float.proofs.Comparing.{not_zeros}

-- ---- signed magnitudes are the whole numbers in order

pub below-is : (s : Bool) (a : ℕ) (t : Bool) (b : ℕ) → below s a t b ≡ lt_z (whole s a) (whole t b)
below-is false a false b = refl
below-is false a true zero = sym (le-ltb a 0 (omega arith))
below-is false a true (suc b) = refl
below-is true zero false b = ap (ltb 0) (let z : 0 + b ≡ b = omega arith in z)
below-is true (suc a) false b = lt-ltb 0 (suc a + b) (omega arith)
below-is true zero true zero = refl
below-is true zero true (suc b) = le-ltb (suc b) 0 (omega arith)
below-is true (suc a) true zero = lt-ltb 0 (suc a) (omega arith)
below-is true (suc a) true (suc b) = go (ltb b a) refl
  where
    go : (p : Bool) → ltb b a ≡ p → ltb (suc b) (suc a) ≡ ltb b a
    go true e = lt-ltb (suc b) (suc a) (omega (arith, ltb-true b a e)) ∙ sym e
    go false e = le-ltb (suc b) (suc a) (omega (arith, ltb-false b a e)) ∙ sym e

-- level: neither is below the other
neither : (a b : ℕ) → (eqb a b && true) ≡ not (ltb a b || ltb b a)
neither a b = go (ltb a b) (ltb b a) refl refl
  where
    go : (p q : Bool) → ltb a b ≡ p → ltb b a ≡ q → (eqb a b && true) ≡ not (p || q)
    go true q e f = let h : a < b = ltb-true a b e in rw (ne_eqb a b (λ i. omega arith))
    go false true e f = let h : b < a = ltb-true b a f in rw (ne_eqb a b (λ i. omega arith))
    go false false e f = rw (eq-eqb a b (omega (arith, ltb-false a b e, ltb-false b a f)))

either_order : (p q : Bool) → not (p || q) ≡ not (q || p)
either_order true true = refl
either_order true false = refl
either_order false true = refl
either_order false false = refl

zeros : (a b : ℕ) → (eqb a b && eqb a 0) ≡ not (ltb 0 (a + b))
zeros a b = go (ltb 0 (a + b)) refl
  where
    go : (p : Bool) → ltb 0 (a + b) ≡ p → (eqb a b && eqb a 0) ≡ not p
    go true e = not_zeros a b (ltb-true 0 (a + b) e)
    go false e =
        let h : a + b ≤ 0 = ltb-false 0 (a + b) e in
        rw (eq-eqb a b (omega arith), eq-eqb a 0 (omega arith))

level-is : (s : Bool) (a : ℕ) (t : Bool) (b : ℕ) → level s a t b ≡ not (below s a t b || below t b s a)
level-is false a false b = neither a b
level-is false a true b = zeros a b ∙ ap (λ (n : ℕ). not (ltb 0 n)) (add_comm a b)
level-is true a false b = zeros a b ∙ either_order false (ltb 0 (a + b))
level-is true a true b = neither a b ∙ either_order (ltb a b) (ltb b a)

-- ---- magnitudes times one factor

scaled : (a b f : ℕ) → 0 < f → ltb (a * f) (b * f) ≡ ltb a b
scaled a b f p = go (ltb a b) refl
  where
    go : (t : Bool) → ltb a b ≡ t → ltb (a * f) (b * f) ≡ t
    go true e =
        lt-ltb (a * f) (b * f)
        (lt_of_lt_of_le (more (a * f) f p) (subst (λ (n : ℕ). n ≤ b * f) (suc-mul a f) (mul-le-mul_right f (ltb-true a b e))))
      where
        more : (n f : ℕ) → 0 < f → n < n + f
        more n f p = omega arith
    go false e = le-ltb (a * f) (b * f) (mul-le-mul_right f (ltb-false a b e))

below-scaled : (s : Bool) (a : ℕ) (t : Bool) (b f : ℕ) → 0 < f → below s (a * f) t (b * f) ≡ below s a t b
below-scaled false a false b f p = scaled a b f p
below-scaled false a true b f p = refl
below-scaled true a false b f p = ap₂ ltb (sym (zero-mul f)) (sym (add-mul a b f)) ∙ scaled 0 (a + b) f p
below-scaled true a true b f p = scaled b a f p

-- two pairs of magnitudes in one proportion
alike : (s : Bool) (p : ℕ) (t : Bool) (q a b c k : ℕ) → 0 < c → 0 < k → p * c ≡ a * k → q * c ≡ b * k → below s p t q ≡ below s a t b
alike s p t q a b c k C K e f =
    sym (below-scaled s p t q c C) ∙ ap₂ (λ (m n : ℕ). below s m t n) e f ∙ below-scaled s a t b k K

-- ---- floats

-- of floats that are no NaN, equal are those of which neither is less
pub equal_is : (x y : Float) → (x ≡ nan → ⊥) → (y ≡ nan → ⊥) → Ieee.eq x y ≡ not (Ieee.lt x y || Ieee.lt y x)
unfolding Ieee.lt Ieee.eq
equal_is nan y h k = absurd (h refl)
equal_is (inf s) nan h k = absurd (k refl)
equal_is (inf true) (inf true) h k = refl
equal_is (inf true) (inf false) h k = refl
equal_is (inf false) (inf true) h k = refl
equal_is (inf false) (inf false) h k = refl
equal_is (inf true) (fin t n d) h k = refl
equal_is (inf false) (fin t n d) h k = refl
equal_is (fin s m e) nan h k = absurd (k refl)
equal_is (fin s m e) (inf true) h k = refl
equal_is (fin s m e) (inf false) h k = refl
equal_is (fin s m e) (fin t n d) h k = level-is s (m * up e * down d) t (n * up d * down e)

-- x is ±a / c and y is ±b / c
module _ (c : ℕ) (C : 0 < c) where
  in-proportion : (m u v a : ℕ) → m * c ≡ a * u → m * v * c ≡ a * (u * v)
  in-proportion m u v a e = mul_right_comm m v c ∙ ap (λ (i : ℕ). i * v) e ∙ mul_assoc a u v

  pub less-is : (x y : Float) (s : Bool) (a : ℕ) (t : Bool) (b : ℕ) → HasValue x s a c → HasValue y t b c
      → Ieee.lt x y ≡ lt_z (whole s a) (whole t b)
  unfolding Ieee.lt
  less-is nan y s a t b h k = absurd h
  less-is (inf i) y s a t b h k = absurd h
  less-is (fin i m e) nan s a t b h k = absurd k
  less-is (fin i m e) (inf j) s a t b h k = absurd k
  less-is (fin i m e) (fin j n d) s a t b h k =
      alike i (m * up e * down d) j (n * up d * down e) a b c (down e * down d) C (mul-pos (down_pos e) (down_pos d))
      (in-proportion (m * up e) (down e) (down d) a h.1)
      (in-proportion (n * up d) (down d) (down e) b k.1 ∙ ap (λ (w : ℕ). b * w) (mul_comm (down d) (down e)))
      ∙ ap₂ (λ (v w : Bool). below v a w b) h.0 k.0
      ∙ below-is s a t b
