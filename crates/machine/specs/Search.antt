-- Tests over a list: whether all pass, whether one passes, how many pass, the first that passes, and the answers as bits.
use Rattle.std.specs.Prelude.{ℕ, suc, ◌+◌, ◌*◌, Bool, true, false, ◌&&◌, ◌||◌, cond, List, [], ◌∷◌, Option, Some, None}

unfoldable pub all : {A : Type 0} → (A → Bool) → List A → Bool
all p [] = true
all p (x ∷ xs) = p x && all p xs

unfoldable pub any : {A : Type 0} → (A → Bool) → List A → Bool
any p [] = false
any p (x ∷ xs) = p x || any p xs

unfoldable pub count : {A : Type 0} → (A → Bool) → List A → ℕ
count p [] = 0
count p (x ∷ xs) = cond (p x) (suc (count p xs)) (count p xs)

unfoldable pub first : {A : Type 0} → (A → Bool) → List A → Option A
first p [] = None
first p (x ∷ xs) = cond (p x) (Some x) (first p xs)

-- the number whose bits are the answers, the lowest first
unfoldable pub mask_of : {A : Type 0} → (A → Bool) → List A → ℕ
mask_of p [] = 0
mask_of p (x ∷ xs) = cond (p x) 1 0 + 2 * mask_of p xs
