-- Laws of checks one after the other.
use Prim.Native.Nat.{ℕ}
use mathlib.Core.Bool.{Bool, true, false, cond}
use mathlib.Core.List.{List, [], ◌∷◌, ◌++◌}
use mathlib.Core.Option.{Option, none, some}
use mathlib.Core.Path.{◌≡◌, refl}
use native.Mathlib.Omega.{arith}
use Rattle.answer.specs.Refusal.{Check, first_that_applies, refused_or}

-- a check that gives no number does not apply, and the rest give none
pub passed : (applies : Bool) (n : ℕ) (rest : Option ℕ) → cond applies (some n) rest ≡ none → (applies ≡ false) × (rest ≡ none)
passed true n rest h = absurd (let z : ◌≡◌ {A = ℕ} 0 1 = cc in omega arith)
passed false n rest h = (refl, h)

-- some checks before others
pub first-after : (a b : List Check) → first_that_applies (a ++ b) ≡ refused_or (first_that_applies a) some (first_that_applies b)
unfolding first_that_applies
first-after [] b = refl
first-after (c ∷ cs) b = go c.applies (first-after cs b)
  where
    go : (x : Bool) → first_that_applies (cs ++ b) ≡ refused_or (first_that_applies cs) some (first_that_applies b)
        → cond x (some c.number) (first_that_applies (cs ++ b)) ≡ refused_or (cond x (some c.number) (first_that_applies cs)) some (first_that_applies b)
    go true e = refl
    go false e = e

-- a number is given, or none
pub either-given : (o p : Option ℕ) → refused_or o some p ≡ none → (o ≡ none) × (p ≡ none)
either-given none p h = (refl, h)
either-given (some n) p h = absurd (let z : ◌≡◌ {A = ℕ} 0 1 = cc in omega arith)
