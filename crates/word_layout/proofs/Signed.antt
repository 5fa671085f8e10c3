-- Signed fields of any width: the number that a field stands for has that field again, and how the code finds it.
use Rattle.std.proofs.Common.{◌≡◌, ℕ, ◌+◌, ◌-◌, ◌*◌, ◌%◌, ◌^◌, ◌<◌, ◌≤◌, Bool, true, false, cond, ltb, leb, refl, ◌∙◌, mod-eq_of_lt, arith, ltb-false, ltb-true, eq-eqb, eqb-true, leb-false, leb-true}
use native.Mathlib.Nat.{add-mul-mod_self_left, mod-eq-sub-mod}
use Rattle.word_layout.specs.Layout.{signed, truncated, fits_signed}

-- a sign bit that weighs h: the field's range goes k + 1 times into that of a word
module _ (h k : ℕ) (e : 2 * h * k ≡ 2 ^ 32 - 2 * h) where
  pub truncated-signed : (n : ℕ) → n < 2 * h → truncated h (signed h n) ≡ n
  unfolding signed
  truncated-signed n l = go (leb h n)
    where
      go : (t : Bool) → cond t (n + (2 ^ 32 - 2 * h)) n % (2 * h) ≡ n
      go true = rw (← e, add-mul-mod_self_left n (2 * h) k) (mod-eq_of_lt l)
      go false = mod-eq_of_lt l

  pub fits-signed-field : (n : ℕ) → n < 2 * h → fits_signed h (signed h n) ≡ true
  unfolding fits_signed
  fits-signed-field n l = rw (truncated-signed n l) (eq-eqb (signed h n) (signed h n) refl)

pub signed-truncated : (h n : ℕ) → fits_signed h n ≡ true → signed h (truncated h n) ≡ n
unfolding fits_signed
signed-truncated h n t = eqb-true _ _ t

-- A signed field as the code has it: half of its room is added, and taken away modulo 2^32.
module _ (half n r : ℕ) (small : n < 2 * half) (room : 2 * half ≤ 2 ^ 32) (bound : r < 2 ^ 32)
    (e : (r + half) % 2 ^ 32 ≡ (n + half) % (2 * half)) where
  negative : half ≤ n → (r + half) % 2 ^ 32 ≡ n - half → (over : Bool) → ltb (r + half) (2 ^ 32) ≡ over → r ≡ n + (2 ^ 32 - 2 * half)
  negative k m true h =
      let l = ltb-true (r + half) (2 ^ 32) h in
      let f : (r + half) % 2 ^ 32 ≡ r + half = mod-eq_of_lt l in
      absurd (omega arith)
  negative k m false h =
      let l = ltb-false (r + half) (2 ^ 32) h in
      let f : (r + half) % 2 ^ 32 ≡ r + half - 2 ^ 32 = mod-eq-sub-mod l ∙ mod-eq_of_lt (omega arith) in
      omega arith

  by_sign : (t : Bool) → leb half n ≡ t → r ≡ cond t (n + (2 ^ 32 - 2 * half)) n
  by_sign true h =
      let k = leb-true half n h in
      let g : n + half - 2 * half ≡ n - half = omega arith in
      let f : (n + half - 2 * half) % (2 * half) ≡ n - half = rw g (mod-eq_of_lt (omega arith)) in
      negative k (e ∙ mod-eq-sub-mod (omega arith) ∙ f) (ltb (r + half) (2 ^ 32)) refl
  by_sign false h =
      let k = leb-false half n h in
      let f : (n + half) % (2 * half) ≡ n + half = mod-eq_of_lt (omega arith) in
      omega arith

  pub signed-field : r ≡ signed half n
  unfolding signed
  signed-field = by_sign (leb half n) refl
