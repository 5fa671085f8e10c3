use native.Mathlib.Omega.{arith}
use Rattle.expression.proofs.Values.{too_large}
use Rattle.expression.proofs.word.bound_up.Goals as goal

-- src/word.rt:134:9
pub returns-then-n-gt2147483648 : goal.returns-then-n-gt2147483648
returns-then-n-gt2147483648 c = record {
  value = too_large _ c.if-n-gt2147483648.true;
  held = omega arith;
}
