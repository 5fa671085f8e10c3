-- Four bytes that stand at a place, compared as one word.
use Prim.Native.Nat.{ℕ, ◌+◌, ◌*◌, ◌<◌}
use mathlib.Core.Bool.{Bool, true, false, ◌&&◌}
use mathlib.Core.List.{List, [], ◌∷◌}
use mathlib.Core.Path.{◌≡◌, refl, ap, ◌∙◌}
use native.Mathlib.Omega.{arith}
use borrow.Author.Tests.{eqb-true, eqb-false, eq-eqb, ne_eqb}
use lib.Dec.{eqb}
use lib.ListN.{get_or}
use Rattle.image_layout.specs.Layout.{stands_at}
use Rattle.little_endian.specs.Numbers.{number_at}

-- numbers that begin with a byte are the same where both parts are
parts : (x m y n : ℕ) → x < 256 → y < 256 → eqb (x + 256 * m) (y + 256 * n) ≡ (eqb x y && eqb m n)
parts x m y n h k = by_first (eqb x y) refl
  where
    by-second : (b : Bool) → eqb m n ≡ b → x ≡ y → eqb (x + 256 * m) (y + 256 * n) ≡ b
    by-second true e f = eq-eqb (x + 256 * m) (y + 256 * n) (omega (arith, eqb-true m n e))
    by-second false e f = ne_eqb (x + 256 * m) (y + 256 * n) (λ g. eqb-false m n e (omega arith))

    by_first : (b : Bool) → eqb x y ≡ b → eqb (x + 256 * m) (y + 256 * n) ≡ (b && eqb m n)
    by_first true e = by-second (eqb m n) refl (eqb-true x y e)
    by_first false e = ne_eqb (x + 256 * m) (y + 256 * n) (λ g. eqb-false x y e (omega arith))

pub four-stand : (l : List ℕ) (at a b c d : ℕ) → ((k : ℕ) → get_or l k 0 < 256) → a < 256 → b < 256 → c < 256 → d < 256
    → eqb (number_at 4 l at) (a + 256 * (b + 256 * (c + 256 * (d + 256 * 0)))) ≡ stands_at (a ∷ b ∷ c ∷ d ∷ []) l at
unfolding stands_at number_at
four-stand l at a b c d h i j k m =
    parts _ _ a _ (h at) i
    ∙ ap (λ z. eqb (get_or l at 0) a && z) (parts _ _ b _ (h (at + 1)) j
    ∙ ap (λ z. eqb (get_or l (at + 1) 0) b && z) (parts _ _ c _ (h (at + 1 + 1)) k
    ∙ ap (λ z. eqb (get_or l (at + 1 + 1) 0) c && z) (parts _ 0 d 0 (h (at + 1 + 1 + 1)) m)))
