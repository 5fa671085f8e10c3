-- The value of a sum. "Every number, parenthesised sum and running sum from the left lies within plus or minus 2^31."
use Rattle.std.specs.Prelude.{ℕ, ◌+◌, ◌-◌, ◌^◌, ◌||◌, cond, List, eqb, ltb}
use Rattle.std.proofs.Math.Option.{Option, none, some}
use Rattle.expression.specs.Syntax.{Term, number, label, group, Sum, last, next, Expression}
use Rattle.token.specs.Number.{limit}
use Rattle.expression.specs.Types.{Sign, Plus, Minus, Value, Known, TooLarge, Unknown}

-- A number is held with 2^32 added to it, so that it is never negative.
abbrev pub bias : ℕ
bias = 2 ^ 32

-- "within plus or minus 2^31"
unfoldable pub bounded : ℕ → Value
bounded n = cond (ltb n (bias - limit) || ltb (bias + limit) n) TooLarge (Known n)

-- one term more, from the left; an unknown label counts before a number that is too large
abbrev pub plus : Value → Sign → Value → Value
plus (Known a) Plus (Known b) = bounded (a + b - bias)
plus (Known a) Minus (Known b) = bounded (a + bias - b)
plus (Known a) s TooLarge = TooLarge
plus (Known a) s Unknown = Unknown
plus TooLarge s (Known b) = TooLarge
plus TooLarge s TooLarge = TooLarge
plus TooLarge s Unknown = Unknown
plus Unknown s b = Unknown

-- "too deep or a number or sum too large" have one number, 14
abbrev pub as_too_large : Value → Value
as_too_large (Known a) = TooLarge
as_too_large TooLarge = TooLarge
as_too_large Unknown = Unknown

-- "with parentheses nested at most 8 deep": what stands in parentheses where so many more may open
abbrev pub nested : ℕ → Value → Value
nested depth v = cond (eqb depth 0) (as_too_large v) v

-- a label's value: its byte address, where it is known
abbrev pub label_value : Option ℕ → Value
label_value none = Unknown
label_value (some a) = bounded (bias + a)

-- the value of a term and of a sum behind what the sum has come to, by the addresses of labels and the depth left
unfoldable mutual
  pub value_term : (List ℕ → Option ℕ) → ℕ → Term → Value
  value_term addresses depth (number n) = bounded (bias + n)
  value_term addresses depth (label w) = label_value (addresses w)
  value_term addresses depth (group s e) = nested depth (value_sum addresses (depth - 1) (Known bias) s e)

  pub value_sum : (List ℕ → Option ℕ) → ℕ → Value → Sign → Sum → Value
  value_sum addresses depth v s (last t) = plus v s (value_term addresses depth t)
  value_sum addresses depth v s (next t u e) = value_sum addresses depth (plus v s (value_term addresses depth t)) u e

-- "with parentheses nested at most 8 deep"
abbrev pub max_depth : ℕ
max_depth = 8

-- the value of an expression
abbrev pub value_of : (List ℕ → Option ℕ) → Expression → Value
value_of addresses e = value_sum addresses max_depth (Known bias) e.lead e.sum
