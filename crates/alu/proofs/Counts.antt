-- The language's counts of zero bits are the counts of the definitions; what those of 0 are.
use Rattle.std.proofs.Common.{◌≡◌, ℕ, zero, suc, ◌+◌, ◌*◌, ◌/◌, ◌%◌, ◌^◌, ◌<◌, ◌≤◌, Bool, true, false, cond, eqb, leb, sym, refl, ◌∙◌, pow-suc, div-one, arith, leb-false, leb-true}
use native.Mathlib.Nat.{div-eq_of_lt, div-eq_of_lt-le}
use lib.Count.{count_leading_zeros, count_trailing_zeros, under, leading_unique}
use Rattle.bits.specs.Bit.{is_set}
use Rattle.alu.specs.Claims.{CountsOfZero}
use Rattle.alu.specs.Unary.{zeros_above, zeros_below}

-- the highest bit of a number of k + 1 bits says whether it is at least 2 ^ k
top : (k x : ℕ) → x < 2 ^ suc k → is_set x k ≡ leb (2 ^ k) x
top k x h = go (leb (2 ^ k) x) refl
  where
    go : (t : Bool) → leb (2 ^ k) x ≡ t → is_set x k ≡ t
    go true e = rw (let q : x / 2 ^ k ≡ 1 = div-eq_of_lt-le (2 ^ k) (omega (arith, leb-true (2 ^ k) x e)) (omega (arith, pow-suc 2 k)) in q)
    go false e = rw (let q : x / 2 ^ k ≡ 0 = div-eq_of_lt (leb-false (2 ^ k) x e) in q)

-- the length m of x in bits, and the zeros above it, make k
Length : ℕ → ℕ → Type 0
Length k x = (m : ℕ) × (zeros_above k x + m ≡ k) × (x < 2 ^ m) × (2 ^ m ≤ 2 * x + 1)

length-of : (k x : ℕ) → x < 2 ^ k → Length k x
unfolding Length zeros_above
length-of zero x h = (0, refl, h, omega arith)
length-of (suc k) x h = go (is_set x k) refl (sym (top k x h)) (length-of k x)
  where
    go : (t : Bool) → is_set x k ≡ t → leb (2 ^ k) x ≡ t → (x < 2 ^ k → Length k x) → Length (suc k) x
    go true e f ih = (suc k, rw e (omega arith), h, omega (arith, pow-suc 2 k, leb-true (2 ^ k) x f))
    go false e f ih = let i : Length k x = ih (leb-false (2 ^ k) x f) in (i.0, rw e (omega (arith, i.1)), i.2, i.3)

pub zeros-above : (k x : ℕ) → x < 2 ^ k → count_leading_zeros k x ≡ zeros_above k x
unfolding Length
zeros-above k x h = let i = length-of k x h in sym (leading_unique k x (zeros_above k x) i.0 i.1 i.2 i.3)

digit : (d t : ℕ) → d < 2 → under d t ≡ cond (eqb d 1) 0 (suc t)
digit zero t h = refl
digit (suc zero) t h = refl
digit (suc (suc d)) t h = absurd (let z : suc (suc d) < 2 = h in omega arith)

pub zeros-below : (k x : ℕ) → count_trailing_zeros k x ≡ zeros_below k x
unfolding count_trailing_zeros zeros_below
zeros-below zero x = refl
zeros-below (suc k) x =
    digit (x % 2) (count_trailing_zeros k (x / 2)) (omega arith)
    ∙ rw (div-one, zeros-below k (x / 2))

pub counts-of-zero : CountsOfZero
unfolding CountsOfZero zeros_above zeros_below
counts-of-zero = (refl, refl)
