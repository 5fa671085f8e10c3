-- The order of floats: that of the numbers that they stand for, with infinities beyond them, and a NaN alone unordered.
use Rattle.std.proofs.Common.{◌≡◌, ℕ, Bool, true, false, cond, not, ◌||◌, ◌⊎◌, ℤ, sym, refl, ap, ◌∙◌, ap₂, inl, inr, true≢false, Option, Some, None}
use lib.Signed.{lt_z}
use lib.Ieee as Ieee
use lib.Ieee.{Float, nan, inf, fin}
use lib.Ieee.Exact.{HasValue}
use Rattle.std.specs.declared.cmp.Ordering.{Ordering}
use Rattle.std.specs.declared.cmp.Ordering.TheVariants.{Less, Equal, Greater}
use Rattle.ordering.specs.Order.{ordering, outcome}
use Rattle.ordering.specs.Claims.{OrdersFinite, side, OrdersInfinite, UnorderedExactly}
use Rattle.float.specs.Claims.{NoneWithNan}
use Rattle.float.specs.Floats.{value}
use Rattle.float.specs.Nearest.{whole}
use Rattle.float.proofs.Comparing.{none-with-nan}
use Rattle.float.proofs.Numbers.{equal_is, less-is}

-- ---- three tests, of which the middle one passes where neither of the others does

abbrev order-of : Float → Float → Option Ordering
order-of x y = outcome (Ieee.lt x y) (Ieee.eq x y) (Ieee.lt y x)

by_tests : (less greater : Bool) → outcome less (not (less || greater)) greater ≡ cond less (Some Less) (cond greater (Some Greater) (Some Equal))
by_tests true greater = refl
by_tests false true = refl
by_tests false false = refl

-- floats that are no NaN are in one of three orders
three_ways : (x y : Float) → (x ≡ nan → ⊥) → (y ≡ nan → ⊥) → order-of x y ≡ cond (Ieee.lt x y) (Some Less) (cond (Ieee.lt y x) (Some Greater) (Some Equal))
three_ways x y h k =
    ap (λ (same : Bool). outcome (Ieee.lt x y) same (Ieee.lt y x)) (equal_is x y h k) ∙ by_tests (Ieee.lt x y) (Ieee.lt y x)

-- by a number for each, whose order is theirs
by-numbers : (x y : Float) (z w : ℤ) → (x ≡ nan → ⊥) → (y ≡ nan → ⊥) → Ieee.lt x y ≡ lt_z z w → Ieee.lt y x ≡ lt_z w z
    → order-of x y ≡ ordering z w
by-numbers x y z w h k e f = three_ways x y h k ∙ ap₂ (λ (s t : Bool). cond s (Some Less) (cond t (Some Greater) (Some Equal))) e f

-- ---- finite floats

number : (x : Float) (s : Bool) (a c : ℕ) → HasValue x s a c → x ≡ nan → ⊥
number nan s a c h e = h
number (inf t) s a c h e = h
number (fin t m k) s a c h e = true≢false cc

pub orders-finite : OrdersFinite
orders-finite d x y z w p h k =
    by-numbers (value x) (value y) (whole h.negative h.magnitude) (whole k.negative k.magnitude)
    (number (value x) h.negative h.magnitude d h.is)
    (number (value y) k.negative k.magnitude d k.is)
    (less-is d p (value x) (value y) h.negative h.magnitude k.negative k.magnitude h.is k.is)
    (less-is d p (value y) (value x) k.negative k.magnitude h.negative h.magnitude k.is h.is)
    ∙ ap₂ ordering (sym h.number) (sym k.number)

-- ---- infinities

side-less : (x y : Float) (s : Bool) → (x ≡ inf s) ⊎ (y ≡ inf s) → (x ≡ nan → ⊥) → (y ≡ nan → ⊥) → Ieee.lt x y ≡ lt_z (side x) (side y)
unfolding Ieee.lt
side-less nan y s i h k = absurd (h refl)
side-less (inf t) nan s i h k = absurd (k refl)
side-less (inf true) (inf true) s i h k = refl
side-less (inf true) (inf false) s i h k = refl
side-less (inf false) (inf true) s i h k = refl
side-less (inf false) (inf false) s i h k = refl
side-less (inf true) (fin t n d) s i h k = refl
side-less (inf false) (fin t n d) s i h k = refl
side-less (fin u m e) nan s i h k = absurd (k refl)
side-less (fin u m e) (inf true) s i h k = refl
side-less (fin u m e) (inf false) s i h k = refl
side-less (fin u m e) (fin t n d) s (inl i) h k = cc
side-less (fin u m e) (fin t n d) s (inr i) h k = cc

turned : {x y : Float} {s : Bool} → (x ≡ inf s) ⊎ (y ≡ inf s) → (y ≡ inf s) ⊎ (x ≡ inf s)
turned (inl e) = inr e
turned (inr e) = inl e

pub orders-infinite : OrdersInfinite
orders-infinite x y s i h k =
    by-numbers (value x) (value y) (side (value x)) (side (value y)) h k (side-less (value x) (value y) s i h k)
    (side-less (value y) (value x) s (turned i) k h)

-- ---- NaNs

some-order : (less greater : Bool) → cond less (Some Less) (cond greater (Some Greater) (Some Equal)) ≡ None → ⊥
some-order true greater e = true≢false cc
some-order false true e = true≢false cc
some-order false false e = true≢false cc

is-nan : (x : Float) → (x ≡ nan) ⊎ (x ≡ nan → ⊥)
is-nan nan = inl refl
is-nan (inf s) = inr (λ e. true≢false cc)
is-nan (fin s m k) = inr (λ e. true≢false cc)

one-is-nan : (x y : Float) → order-of x y ≡ None → (x ≡ nan) ⊎ (y ≡ nan)
one-is-nan x y e = go (is-nan x) (is-nan y)
  where
    go : (x ≡ nan) ⊎ (x ≡ nan → ⊥) → (y ≡ nan) ⊎ (y ≡ nan → ⊥) → (x ≡ nan) ⊎ (y ≡ nan)
    go (inl h) k = inl h
    go (inr h) (inl k) = inr k
    go (inr h) (inr k) =
        absurd (some-order (Ieee.lt x y) (Ieee.lt y x) (sym (three_ways x y h k) ∙ e))

pub unordered-exactly : UnorderedExactly
unfolding NoneWithNan
unordered-exactly x y = (one-is-nan (value x) (value y), (λ h. let n = none-with-nan x y h in rw (n.0, n.2, n.4)))
