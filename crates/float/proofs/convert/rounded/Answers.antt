-- `convert::rounded` meets its contract: the shifts keep 24 digits, and the carry rounds them to nearest even.
use native.Mathlib.Omega.{arith}
use mathlib.Core.Path.{refl}
use Rattle.float.proofs.Rounding.{rounding, by-shifts}
use Rattle.float.proofs.convert.rounded.Goals as goal

pub overflow_shl-top : goal.overflow_shl-top
overflow_shl-top c = (rounding c.args.a c.requires (omega arith)).zeros

pub overflow_sub-result : goal.overflow_sub-result
overflow_sub-result c = omega (arith, (rounding c.args.a c.requires (omega arith)).zeros)

pub returns : goal.returns
returns c = by-shifts c.args.a c.requires (omega arith) _ refl
