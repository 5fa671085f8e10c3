-- Labels found by their names.
use Prim.Native.Nat.{ℕ, ◌<◌, ◌≤◌}
use mathlib.Core.Bool.{Bool, true, false, ◌&&◌, cond}
use mathlib.Core.List.{List, [], ◌∷◌}
use mathlib.Core.Option.{none, some}
use mathlib.Core.Path.{◌≡◌, refl, ap}
use native.Mathlib.Omega.{arith}
use borrow.Author.Tests.{ne_eqb}
use lib.Dec.{eqb}
use lib.ListN.{length, drop, get_or}
use lib.Seq.{drop-cons}
use Rattle.std.specs.Cmp.Lexicographic.{pointwise}
use Rattle.token.specs.Byte.{in_word}
use Rattle.token.specs.Token.{leading_word}
use Rattle.expression.specs.Label.{same, address_in}

-- what `==` of slices says
pub same_is : (xs ys : List ℕ) → pointwise eqb xs ys ≡ same xs ys
unfolding same
same_is [] [] = refl
same_is [] (d ∷ ds) = refl
same_is (c ∷ cs) [] = refl
same_is (c ∷ cs) (d ∷ ds) = ap (λ b. eqb c d && b) (same_is cs ds)

-- one label further

pub label-on : (source l w : List ℕ) → 2 ≤ length l → same (leading_word (drop (get_or l 0 0) source)) w ≡ false → address_in source (drop 2 l) w ≡ address_in source l w
unfolding address_in
label-on source [] w h e = absurd (omega arith)
label-on source (a ∷ []) w h e = absurd (omega arith)
label-on source (a ∷ b ∷ l) w h e = rw e

pub label-found : (source l w : List ℕ) → 2 ≤ length l → same (leading_word (drop (get_or l 0 0) source)) w ≡ true → some (get_or l 1 0) ≡ address_in source l w
unfolding address_in
label-found source [] w h e = absurd (omega arith)
label-found source (a ∷ []) w h e = absurd (omega arith)
label-found source (a ∷ b ∷ l) w h e = rw e

pub labels-end : (source l w : List ℕ) → length l ≤ 1 → none ≡ address_in source l w
unfolding address_in
labels-end source [] w h = refl
labels-end source (a ∷ []) w h = refl
labels-end source (a ∷ b ∷ l) w h = absurd (omega arith)

-- words of two first bytes
heads-by : (b : Bool) (c d : ℕ) (cs ds : List ℕ) → (c ≡ d → ⊥) → false ≡ same (cond b (c ∷ cs) []) (d ∷ ds)
unfolding same
heads-by true c d cs ds h = rw (ne_eqb c d h)
heads-by false c d cs ds h = refl

pub first-differs : (source word : List ℕ) (place : ℕ) → place < length source → 0 < length word → (get_or source place 0 ≡ get_or word 0 0 → ⊥) → false ≡ same (leading_word (drop place source)) word
unfolding leading_word
first-differs source [] place h i e = absurd (omega arith)
first-differs source (d ∷ ds) place h i e =
    rw (drop-cons source place 0 h)
    (heads-by (in_word (get_or source place 0)) (get_or source place 0) d _ ds e)
