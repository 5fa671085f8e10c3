-- `value_of` meets its contract: by whether the byte is a digit or a letter.
use Prim.Native.Nat.{ℕ, ◌+◌, ◌*◌, ◌/◌, ◌%◌, ◌≤◌}
use mathlib.Core.Bool.{Bool, true, false, ◌&&◌, ◌||◌}
use mathlib.Core.Path.{◌≡◌, refl}
use borrow.Author.Tests.{lt-ltb, le-ltb, ltb-true, ltb-false}
use lib.Dec.{ltb}
use Rattle.intel_hex.specs.Digits.{value}
use native.Mathlib.Omega.{arith}
use Rattle.intel_hex.proofs.digits.value_of.Goals as goal

hex-value : (c : ℕ) → (ltb 47 c && ltb c 58 || ltb 64 c && ltb c 71) ≡ true → (c % 16 + 9 * (c / 64) ≡ value c) × (c % 16 + 9 * (c / 64) ≤ 16)
unfolding value
hex-value c e = go (ltb 47 c) (ltb c 58) (ltb 64 c) (ltb c 71) refl refl refl refl e
  where
    go : (p q r s : Bool) → ltb 47 c ≡ p → ltb c 58 ≡ q → ltb 64 c ≡ r → ltb c 71 ≡ s → (p && q || r && s) ≡ true →
        (c % 16 + 9 * (c / 64) ≡ value c) × (c % 16 + 9 * (c / 64) ≤ 16)
    go true true r s a b g h e =
        let l = ltb-true 47 c a in
        let m = ltb-true c 58 b in
        (rw (le-ltb c 48 (omega arith), lt-ltb c 58 m) (omega arith), omega arith)
    go true false true true a b g h e =
        let l = ltb-true 64 c g in
        let m = ltb-true c 71 h in
        (rw (le-ltb c 48 (omega arith), le-ltb c 58 (omega arith), le-ltb c 65 (omega arith), lt-ltb c 71 m) (omega arith), omega arith)
    go false false true true a b g h e =
        let l = ltb-true 64 c g in
        let m = ltb-true c 71 h in
        (rw (le-ltb c 48 (omega arith), le-ltb c 58 (omega arith), le-ltb c 65 (omega arith), lt-ltb c 71 m) (omega arith), omega arith)
    go false true true true a b g h e = absurd (omega (arith, ltb-true c 58 b, ltb-true 64 c g))
    go true false false s a b g h e = let z : ◌≡◌ {A = ℕ} 0 1 = cc in absurd (omega arith)
    go true false true false a b g h e = let z : ◌≡◌ {A = ℕ} 0 1 = cc in absurd (omega arith)
    go false true false s a b g h e = let z : ◌≡◌ {A = ℕ} 0 1 = cc in absurd (omega arith)
    go false false false s a b g h e = let z : ◌≡◌ {A = ℕ} 0 1 = cc in absurd (omega arith)
    go false true true false a b g h e = let z : ◌≡◌ {A = ℕ} 0 1 = cc in absurd (omega arith)
    go false false true false a b g h e = let z : ◌≡◌ {A = ℕ} 0 1 = cc in absurd (omega arith)

no_value : (c : ℕ) → (ltb 47 c && ltb c 58 || ltb 64 c && ltb c 71) ≡ false → 16 ≡ value c
unfolding value
no_value c e = go (ltb 47 c) (ltb c 58) (ltb 64 c) (ltb c 71) refl refl refl refl e
  where
    go : (p q r s : Bool) → ltb 47 c ≡ p → ltb c 58 ≡ q → ltb 64 c ≡ r → ltb c 71 ≡ s → (p && q || r && s) ≡ false → 16 ≡ value c
    go false q r s a b g h e = rw (lt-ltb c 48 (omega (arith, ltb-false 47 c a)))
    go true true r s a b g h e = let z : ◌≡◌ {A = ℕ} 0 1 = cc in absurd (omega arith)
    go true false false s a b g h e =
        let l = ltb-false c 58 b in
        rw (le-ltb c 48 (omega arith), le-ltb c 58 l, lt-ltb c 65 (omega (arith, ltb-false 64 c g)))
    go true false true true a b g h e = let z : ◌≡◌ {A = ℕ} 0 1 = cc in absurd (omega arith)
    go true false true false a b g h e =
        let l = ltb-true 64 c g in
        rw (le-ltb c 48 (omega arith), le-ltb c 58 (omega arith), le-ltb c 65 (omega arith), le-ltb c 71 (ltb-false c 71 h))

pub returns-then-is_digit-is_letter : goal.returns-then-is_digit-is_letter
returns-then-is_digit-is_letter c = hex-value _ c.if-is_digit-is_letter.true

pub returns : goal.returns
returns c = (no_value _ c.if-is_digit-is_letter.false, omega arith)
