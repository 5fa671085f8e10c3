-- Laws of tests taken together.
use mathlib.Core.Bool.{Bool, true, false, ◌&&◌, ◌||◌, false≢true}
use mathlib.Core.List.{List, [], ◌∷◌}
use mathlib.Core.Path.{◌≡◌, refl, sym, ap, ◌∙◌}
use Rattle.machine.specs.Search.{all}

-- a test does not both pass and fail
pub never : {A : Type 0} {b : Bool} → b ≡ true → b ≡ false → A
never h g = absurd (false≢true (sym g ∙ h))

pub neither : (a b : Bool) → (a || b) ≡ false → (a ≡ false) × (b ≡ false)
neither true b h = never refl h
neither false b h = (refl, h)

swap : (a b c d : Bool) → (a && b && (c && d)) ≡ (a && c && (b && d))
swap true true c d = refl
swap true false true d = refl
swap true false false d = refl
swap false b c d = refl

-- two tests at each place, and each at all places
pub all_both : {A : Type 0} (p q : A → Bool) (xs : List A) → all (λ x. p x && q x) xs ≡ (all p xs && all q xs)
unfolding all
all_both p q [] = refl
all_both p q (x ∷ xs) = ap (λ r. p x && q x && r) (all_both p q xs) ∙ swap (p x) (q x) (all p xs) (all q xs)
