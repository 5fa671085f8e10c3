-- What stands at a place, one byte after the other.
use Prim.Native.Nat.{ℕ, ◌+◌, ◌≤◌, ◌<◌}
use mathlib.Core.Bool.{Bool, true, false, ◌&&◌}
use mathlib.Core.List.{List, [], ◌∷◌}
use mathlib.Core.Path.{◌≡◌, refl, ap, ◌∙◌}
use native.Mathlib.Omega.{arith}
use borrow.Author.Tests.{le-leb, lt-leb}
use lib.Dec.{eqb}
use lib.ListN.{length, get_or}
use Rattle.image_layout.specs.Types.{RecordRow}
use Rattle.image_layout.specs.Layout.{head_length, head_of, stands_at, head_stands}

with-true : (a : Bool) → (a && true) ≡ a
with-true true = refl
with-true false = refl

to-left : (a b c : Bool) → (a && (b && c)) ≡ (a && b && c)
to-left true b c = refl
to-left false b c = refl

pub stands-none : (l : List ℕ) (at : ℕ) → true ≡ stands_at [] l at
unfolding stands_at
stands-none l at = refl

pub stands_one : (l : List ℕ) (at x : ℕ) → stands_at (x ∷ []) l at ≡ eqb (get_or l at 0) x
unfolding stands_at
stands_one l at x = with-true (eqb (get_or l at 0) x)

pub stands-two : (l : List ℕ) (at x y : ℕ) → stands_at (x ∷ y ∷ []) l at ≡ (eqb (get_or l at 0) x && eqb (get_or l (at + 1) 0) y)
unfolding stands_at
stands-two l at x y = ap (λ b. eqb (get_or l at 0) x && b) (with-true (eqb (get_or l (at + 1) 0) y))

pub stands-more : (l : List ℕ) (at x y : ℕ) (h : List ℕ) → stands_at (x ∷ y ∷ h) l at ≡ (eqb (get_or l at 0) x && eqb (get_or l (at + 1) 0) y && stands_at h l (at + 2))
unfolding stands_at
stands-more l at x y h =
    to-left (eqb (get_or l at 0) x) (eqb (get_or l (at + 1) 0) y) (stands_at h l (at + 1 + 1))
    ∙ ap (λ p. eqb (get_or l at 0) x && eqb (get_or l (at + 1) 0) y && stands_at h l p) (let z : at + 1 + 1 ≡ at + 2 = omega arith in z)

-- a record's head where the bytes end before it does, and where they do not
module _ (r : RecordRow) (i : ℕ) (l : List ℕ) (at : ℕ) where
  pub head-short : length l < at + head_length r.places → false ≡ head_stands r i l at
  unfolding head_stands
  head-short h = rw (lt-leb (at + head_length r.places) (length l) h)

  pub head-within : at + head_length r.places ≤ length l → head_stands r i l at ≡ stands_at (head_of r i) l at
  unfolding head_stands
  head-within h = rw (le-leb (at + head_length r.places) (length l) h)
