-- Two floats compared: less, equal and greater exclude one another, equal takes its operands in either order, and a NaN is none of them.
use mathlib.Core.Path.{◌≡◌, refl, sym, ap, ◌∙◌}
use mathlib.Core.Logic.{inl, inr}
use mathlib.Core.Bool.{Bool, true, false, not, ◌&&◌, ◌||◌, false≢true}
use Prim.Native.Nat.{ℕ, ◌+◌, ◌*◌, ◌<◌}
use native.Mathlib.Omega.{arith}
use borrow.Author.Tests.{le-ltb, ne_eqb, ltb-true, eqb-true, eqb-false}
use lib.Dec.{eqb}
use lib.Ieee as Ieee
use lib.Ieee.{Float, nan, inf, fin, up, down, below, level}
use Rattle.float.specs.Claims.{NoneWithNan}

-- ---- magnitudes with their signs

below-once : (s : Bool) (a : ℕ) (t : Bool) (b : ℕ) → below s a t b ≡ true → below t b s a ≡ false
below-once false a false b e = le-ltb b a (omega (arith, ltb-true a b e))
below-once false a true b e = absurd (false≢true e)
below-once true a false b e = refl
below-once true a true b e = le-ltb a b (omega (arith, ltb-true b a e))

pub not_zeros : (a b : ℕ) → 0 < a + b → (eqb a b && eqb a 0) ≡ false
not_zeros a b h = go (eqb a b) (eqb a 0) refl refl
  where
    go : (p q : Bool) → eqb a b ≡ p → eqb a 0 ≡ q → (p && q) ≡ false
    go false q x y = refl
    go true false x y = refl
    go true true x y = absurd (omega (arith, h, eqb-true a b x, eqb-true a 0 y))

below_apart : (s : Bool) (a : ℕ) (t : Bool) (b : ℕ) → below s a t b ≡ true → level s a t b ≡ false
below_apart false a false b e = let h : a < b = ltb-true a b e in rw (ne_eqb a b (λ i. omega arith))
below_apart false a true b e = absurd (false≢true e)
below_apart true a false b e = not_zeros a b (ltb-true 0 (a + b) e)
below_apart true a true b e = let h : b < a = ltb-true b a e in rw (ne_eqb a b (λ i. omega arith))

signs-turned : (s t : Bool) (a : ℕ) → level t a s a ≡ level s a t a
signs-turned true true a = refl
signs-turned true false a = refl
signs-turned false true a = refl
signs-turned false false a = refl

level-turned : (s : Bool) (a : ℕ) (t : Bool) (b : ℕ) → level t b s a ≡ level s a t b
level-turned s a t b = go (eqb a b) refl
  where
    go : (p : Bool) → eqb a b ≡ p → level t b s a ≡ level s a t b
    go true e =
        let i : a ≡ b = eqb-true a b e in
        ap (λ (n : ℕ). level t n s a) (sym i) ∙ signs-turned s t a ∙ ap (λ (n : ℕ). level s a t n) i
    go false e = rw (e, ne_eqb b a (λ i. eqb-false a b e (sym i)))

-- ---- floats

pub less-once : (x y : Float) → Ieee.lt x y ≡ true → Ieee.lt y x ≡ false
unfolding Ieee.lt
less-once nan y e = absurd (false≢true e)
less-once (inf s) nan e = absurd (false≢true e)
less-once (inf true) (inf true) e = absurd (false≢true e)
less-once (inf true) (inf false) e = refl
less-once (inf false) (inf t) e = absurd (false≢true e)
less-once (inf true) (fin t n d) e = refl
less-once (inf false) (fin t n d) e = absurd (false≢true e)
less-once (fin s m k) nan e = absurd (false≢true e)
less-once (fin s m k) (inf true) e = absurd (false≢true e)
less-once (fin s m k) (inf false) e = refl
less-once (fin s m k) (fin t n d) e = below-once s (m * up k * down d) t (n * up d * down k) e

pub less-apart : (x y : Float) → Ieee.lt x y ≡ true → Ieee.eq x y ≡ false
unfolding Ieee.lt Ieee.eq
less-apart nan y e = refl
less-apart (inf s) nan e = refl
less-apart (inf true) (inf true) e = absurd (false≢true e)
less-apart (inf true) (inf false) e = refl
less-apart (inf false) (inf t) e = absurd (false≢true e)
less-apart (inf s) (fin t n d) e = refl
less-apart (fin s m k) nan e = refl
less-apart (fin s m k) (inf t) e = refl
less-apart (fin s m k) (fin t n d) e = below_apart s (m * up k * down d) t (n * up d * down k) e

pub equal-turned : (x y : Float) → Ieee.eq y x ≡ Ieee.eq x y
unfolding Ieee.eq
equal-turned nan nan = refl
equal-turned nan (inf t) = refl
equal-turned nan (fin t n d) = refl
equal-turned (inf s) nan = refl
equal-turned (inf true) (inf true) = refl
equal-turned (inf true) (inf false) = refl
equal-turned (inf false) (inf true) = refl
equal-turned (inf false) (inf false) = refl
equal-turned (inf s) (fin t n d) = refl
equal-turned (fin s m k) nan = refl
equal-turned (fin s m k) (inf t) = refl
equal-turned (fin s m k) (fin t n d) = level-turned s (m * up k * down d) t (n * up d * down k)

-- the other compares by these
pub differs : (x y : Float) → Ieee.ne x y ≡ not (Ieee.eq x y)
unfolding Ieee.ne
differs x y = refl

pub at_most : (x y : Float) → Ieee.le x y ≡ (Ieee.lt x y || Ieee.eq x y)
unfolding Ieee.le
at_most x y = refl

-- ---- with a NaN

right-nan-less : (x : Float) → Ieee.lt x nan ≡ false
unfolding Ieee.lt
right-nan-less nan = refl
right-nan-less (inf s) = refl
right-nan-less (fin s m k) = refl

right-nan-equal : (x : Float) → Ieee.eq x nan ≡ false
unfolding Ieee.eq
right-nan-equal nan = refl
right-nan-equal (inf s) = refl
right-nan-equal (fin s m k) = refl

left-nan-less : (x : Float) → Ieee.lt nan x ≡ false
unfolding Ieee.lt
left-nan-less x = refl

left-nan-equal : (x : Float) → Ieee.eq nan x ≡ false
unfolding Ieee.eq
left-nan-equal x = refl

pub none-with-nan : NoneWithNan
unfolding NoneWithNan Ieee.ne Ieee.le
none-with-nan a b (inl e) =
    rw (e, left-nan-less (Ieee.of_bits Ieee.binary32 b), right-nan-less (Ieee.of_bits Ieee.binary32 b), left-nan-equal (Ieee.of_bits Ieee.binary32 b), right-nan-equal (Ieee.of_bits Ieee.binary32 b))
    (refl, refl, refl, refl, refl, refl)
none-with-nan a b (inr e) =
    rw (e, left-nan-less (Ieee.of_bits Ieee.binary32 a), right-nan-less (Ieee.of_bits Ieee.binary32 a), left-nan-equal (Ieee.of_bits Ieee.binary32 a), right-nan-equal (Ieee.of_bits Ieee.binary32 a))
    (refl, refl, refl, refl, refl, refl)
