-- `put_decimal` meets its contract: a number of 32 bits has no more than ten digits.
use native.Mathlib.Omega.{arith}
use Rattle.text.proofs.Digits.{long-is}
use Rattle.text.proofs.number.put_decimal.Goals as goal

pub returns : goal.returns
returns c = rw (c.from.ensures, long-is c.args.n (omega arith)) at c.put_long.ensures
