-- Numbers made of one bit a lane.
use mathlib.Core.Path.{◌≡◌, refl, sym, ap, ap₂, ◌∙◌}
use mathlib.Core.Bool.{Bool, true, false, cond, ◌&&◌}
use Prim.Native.Nat.{ℕ, zero, suc, ◌+◌, ◌-◌, ◌*◌, ◌/◌, ◌%◌, ◌^◌, ◌≤◌, ◌<◌}
use native.Mathlib.Numerals.{add-one, one-add}
use native.Mathlib.Nat.{pow-suc, one-mul, mod-lt, mod-eq_of_lt}
use native.Mathlib.Omega.{arith}
use lib.Bits.{bit_and, bit_or, and_zero_l, and_comm, and_mask, and_le_l, and_mod, and_block, or_shifted_r, or_zero_r}
use lib.Dec.{eqb, lit<}
use lib.Pow.{pow_pos, pow-lt, shl_exact, mod-pow-add}
use Rattle.vector.specs.Lanes.{is_on}
use Rattle.compares.specs.Lanes.{mask_below}
use Rattle.compares.specs.Outcome.{flags_of}

at_most : (t : Bool) (n : ℕ) → cond t n 0 ≤ n
at_most true n = omega arith
at_most false n = omega arith

mask_below-lt : (n : ℕ) (f : ℕ → Bool) → mask_below n f < 2 ^ n
unfolding mask_below
mask_below-lt zero f = omega arith
mask_below-lt (suc n) f = omega (arith, mask_below-lt n f, at_most (f n) (2 ^ n), pow-suc 2 n)

pub same-below : (n : ℕ) (f g : ℕ → Bool) → ((j : ℕ) → j < n → f j ≡ g j) → mask_below n f ≡ mask_below n g
unfolding mask_below
same-below zero f g h = refl
same-below (suc n) f g h =
    ap₂ (λ (m : ℕ) (t : Bool). m + cond t (2 ^ n) 0) (same-below n f g (λ j l. h j (omega arith))) (h n (omega arith))

pub same-mask : (n : ℕ) (f g : ℕ → Bool) → ((j : ℕ) → f j ≡ g j) → mask_below n f ≡ mask_below n g
same-mask n f g h = same-below n f g (λ j l. h j)

-- the lane's bit of an answer
one_bit : (t : Bool) (j : ℕ) → j < 16 → bit_and (flags_of t) (1 * 2 ^ j % 2 ^ 32) ≡ cond t (2 ^ j) 0
one_bit true j h =
    ap (bit_and (2 ^ 16 - 1)) (shl_exact {a = 1} 1 j 32 (lit< tt) (omega arith) ∙ one-mul (2 ^ j))
    ∙ and_comm (2 ^ 16 - 1) (2 ^ j)
    ∙ and_mask (2 ^ j) 16
    ∙ mod-eq_of_lt (pow-lt h)
one_bit false j h = and_zero_l (1 * 2 ^ j % 2 ^ 32)

joined : (t : Bool) (j r : ℕ) → r < 2 ^ j → bit_or r (cond t (2 ^ j) 0) ≡ r + cond t (2 ^ j) 0
joined true j r h = ap (bit_or r) (sym (one-mul (2 ^ j))) ∙ or_shifted_r 1 j r h ∙ omega arith
joined false j r h = or_zero_r r ∙ omega arith

-- r has the answers of the first j lanes
pub record Collecting (f : ℕ → Bool) (r j : ℕ) : Type 0 where
  pub within : j ≤ 16
  pub done : r ≡ mask_below j f

pub start : (f : ℕ → Bool) → Collecting f 0 0
unfolding mask_below
start f = record { within = omega arith; done = refl }

pub more : {f : ℕ → Bool} {r j x : ℕ} → Collecting f r j → j < 16 → x ≡ flags_of (f j) → Collecting f (bit_or r (bit_and x (1 * 2 ^ j % 2 ^ 32))) (j + 1)
unfolding mask_below
more {f} {r} {j} {x} h l e = record {
  within = omega arith;
  done =
      ap₂ (λ (m n : ℕ). bit_or m (bit_and n (1 * 2 ^ j % 2 ^ 32))) h.done e
      ∙ ap (bit_or (mask_below j f)) (one_bit (f j) j l)
      ∙ joined (f j) j (mask_below j f) (mask_below-lt j f)
      ∙ ap (λ (n : ℕ). mask_below n f) (sym (add-one j));
}

pub whole : {f : ℕ → Bool} {r j : ℕ} → Collecting f r j → 16 ≤ j → r ≡ mask_below 16 f
whole {j = j} h l = let e : j ≡ 16 = omega (arith, h.within) in rw e at h.done

-- ---- a mask keeps the answers of the lanes that are on

digit : Bool → ℕ
digit t = cond t 1 0

and-digit : (d : ℕ) (t : Bool) → d < 2 → bit_and (digit t) d ≡ digit (eqb d 1 && t)
unfolding digit
and-digit zero true h = refl
and-digit zero false h = refl
and-digit (suc zero) true h = refl
and-digit (suc zero) false h = refl
and-digit (suc (suc d)) t h = absurd (let z : suc (suc d) < 2 = h in omega arith)

top : (t : Bool) (n r : ℕ) → digit t * 2 ^ n + r ≡ r + cond t (2 ^ n) 0
unfolding digit
top true n r = omega arith
top false n r = omega arith

low : (n mask : ℕ) (f : ℕ → Bool) → bit_and (mask_below n f) (mask % 2 ^ n) ≡ mask_below n (λ j. is_on mask j && f j)
unfolding mask_below
low zero mask f = and_zero_l (mask % 1)
low (suc n) mask f =
    ap₂ bit_and (sym (top (f n) n (mask_below n f))) (ap (λ (k : ℕ). mask % 2 ^ k) (sym (one-add n)) ∙ mod-pow-add mask 1 n)
    ∙ and_block n (digit (f n)) (mask / 2 ^ n % 2) (mask_below n f) (mask % 2 ^ n) (mask_below-lt n f) (mod-lt mask (pow_pos n))
    ∙ ap₂ (λ (a b : ℕ). a * 2 ^ n + b) (and-digit (mask / 2 ^ n % 2) (f n) (omega arith)) (low n mask f)
    ∙ top (is_on mask n && f n) n (mask_below n (λ j. is_on mask j && f j))

pub masked : (n mask : ℕ) (f : ℕ → Bool) → bit_and (mask_below n f) mask ≡ mask_below n (λ j. is_on mask j && f j)
masked n mask f =
    sym (mod-eq_of_lt (let h : bit_and (mask_below n f) mask < 2 ^ n = omega (arith, and_le_l (mask_below n f) mask, mask_below-lt n f) in h))
    ∙ and_mod (mask_below n f) mask n
    ∙ ap (λ (k : ℕ). bit_and k (mask % 2 ^ n)) (mod-eq_of_lt (mask_below-lt n f))
    ∙ low n mask f
