-- The size of a program that is not refused.
use Prim.Native.Nat.{ℕ, ◌/◌, ◌%◌, ◌≤◌, ◌*◌}
use mathlib.Core.Bool.{Bool, true, false, ◌||◌, not}
use mathlib.Core.Path.{◌≡◌, refl}
use native.Mathlib.Omega.{arith}
use lib.Dec.{eqb, ltb}
use borrow.Author.Tests.{eqb-true, ltb-false, not-false}
use Rattle.answer.specs.Refusal.{program_words, bad_program}
use Rattle.program.specs.Program.{bad_bytes}

-- both tests of a sum fail
or_left : (a b : Bool) → (a || b) ≡ false → a ≡ false
or_left true b e = e
or_left false b e = refl

or_right : (a b : Bool) → (a || b) ≡ false → b ≡ false
or_right true b e = let z : ◌≡◌ {A = ℕ} 0 1 = cc in absurd (omega arith)
or_right false b e = e

-- of words
pub allowed : (words : ℕ) → bad_program words ≡ false → words ≤ program_words
allowed words e = ltb-false program_words words (or_right (eqb words 0) (ltb program_words words) e)

-- of bytes
pub record Whole (n : ℕ) : Type 0 where
  pub words : n % 4 ≡ 0
  pub small : n ≤ 4 * program_words

pub whole : (n : ℕ) → bad_bytes n ≡ false → Whole n
whole n e =
    let words : n % 4 ≡ 0 = eqb-true _ _ (not-false _ (or_left (not (eqb (n % 4) 0)) (bad_program (n / 4)) e)) in
    let few = allowed (n / 4) (or_right (not (eqb (n % 4) 0)) (bad_program (n / 4)) e) in
    record { words = words; small = omega (arith, words, few) }
