-- Numbers that are held within bounds.
use Prim.Native.Nat.{ℕ, ◌+◌, ◌-◌, ◌<◌}
use mathlib.Core.Bool.{Bool, true, false, ◌||◌, cond}
use mathlib.Core.Option.{Option, none, some}
use mathlib.Core.Path.{◌≡◌, refl}
use native.Mathlib.Omega.{arith}
use borrow.Author.Tests.{lt-ltb, le-ltb, ltb-false}
use lib.Dec.{ltb}
use Rattle.expression.specs.Types.{Known, TooLarge}
use Rattle.expression.specs.Value.{bounded, bias, label_value}
use Rattle.token.specs.Number.{limit}
use Rattle.expression.specs.Reading.{InRange}

pub too_large : (n : ℕ) → 0x80000000 < n → TooLarge ≡ bounded (bias + n)
unfolding bounded
too_large n h = rw (le-ltb (bias + n) 0x80000000 (omega arith), lt-ltb 0x180000000 (bias + n) (omega arith))

in-range-by : (n : ℕ) (a b : Bool) → ltb n (bias - limit) ≡ a → ltb (bias + limit) n ≡ b → InRange (cond (a || b) TooLarge (Known n))
in-range-by n true b e f = omega arith
in-range-by n false true e f = omega arith
in-range-by n false false e f = (ltb-false n (bias - limit) e, ltb-false (bias + limit) n f)

in-range : (n : ℕ) → InRange (bounded n)
unfolding bounded
in-range n = in-range-by n _ _ refl refl

-- a label's value is held within bounds
pub label-in-range : (o : Option ℕ) → InRange (label_value o)
label-in-range none = omega arith
label-in-range (some a) = in-range (bias + a)
