-- Digits read one by one.
use Prim.Native.Nat.{ℕ, ◌+◌, ◌<◌}
use mathlib.Core.List.{List, [], ◌∷◌}
use mathlib.Core.Option.{Option, none, some}
use mathlib.Core.Path.{◌≡◌, refl}
use native.Mathlib.Numerals.{add-one}
use native.Mathlib.Omega.{arith}
use lib.ListN.{length, drop, get_or}
use lib.Seq.{drop-cons, drop-length}
use Rattle.text.specs.Argument.{with_digit, with_digits, number}

pub empty : (text : List ℕ) → length text ≡ 0 → number text ≡ none
empty [] e = refl
empty (byte ∷ text) e = absurd (omega arith)

pub filled : (text : List ℕ) → (length text ≡ 0 → ⊥) → number text ≡ with_digits (some 0) text
filled [] e = absurd (e refl)
filled (byte ∷ text) e = refl

-- the byte at a place is the next one
pub read_next : (before : Option ℕ) (text : List ℕ) (i : ℕ) → i < length text → with_digits before (drop i text) ≡ with_digits (with_digit before (get_or text i 0)) (drop (i + 1) text)
unfolding with_digits
read_next before text i h = rw (add-one i, drop-cons text i 0 h)

-- nothing is left at the end
pub read-end : (before : Option ℕ) (text : List ℕ) (i : ℕ) → i ≡ length text → with_digits before (drop i text) ≡ before
unfolding with_digits
read-end before text i e = rw (e, drop-length text)

-- what is refused stays so
pub refused_stays : (text : List ℕ) → with_digits none text ≡ none
unfolding with_digits
refused_stays [] = refl
refused_stays (byte ∷ text) = refused_stays text
