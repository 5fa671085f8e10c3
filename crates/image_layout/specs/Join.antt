-- Lists laid end to end, tests of each number below one, and a lent list that grows.
use Rattle.std.specs.Prelude.{ℕ, zero, suc, ◌+◌, Bool, true, ◌&&◌, List, [], ◌++◌, ◌≡◌, length, take}

-- f 0, f 1, .., f (n - 1), end to end
unfoldable pub concat_below : {A : Type 0} → ℕ → (ℕ → List A) → List A
concat_below zero f = []
concat_below (suc n) f = concat_below n f ++ f n

-- g 0 + g 1 + .. + g (n - 1)
unfoldable pub total : ℕ → (ℕ → ℕ) → ℕ
total zero g = 0
total (suc n) g = total n g + g n

-- p holds of 0, 1, .., n - 1
unfoldable pub all_below : ℕ → (ℕ → Bool) → Bool
all_below zero p = true
all_below (suc n) p = all_below n p && p n

-- r is l with `new` stored from place `at` up to place p; what stands past p is not said
pub record Grown {A : Type 0} (l r : List A) (at p : ℕ) (new : List A) : Type 0 where
  pub size : length r ≡ length l
  pub next : p ≡ at + length new
  pub kept : take p r ≡ take at l ++ new
