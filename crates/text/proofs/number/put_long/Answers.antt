-- `put_long` meets its contract: the digits that it takes are the number's.
use mathlib.Core.Path.{◌∙◌}
use native.Mathlib.Omega.{arith}
use Rattle.text.proofs.Digits.{decimal-is}
use Rattle.text.proofs.number.put_long.Goals as goal

pub returns : goal.returns
returns c = let d = c.decimal-count in rw (d.ensures.digits ∙ decimal-is c.args.n d.result (omega arith) d.ensures.len) at c.put_text.ensures
