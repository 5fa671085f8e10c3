-- `place::is_multiple` meets its contract: in each arm the alignment is known.
use mathlib.Core.Path.{sym}
use Prim.Native.Nat.{◌%◌}
use native.Mathlib.Omega.{arith}
use borrow.Author.Tests.{eq-eqb}
use Rattle.memory.proofs.place.is_multiple.Goals as goal

pub returns-in-1 : goal.returns-in-1
returns-in-1 c = rw c.in-1.is (sym (eq-eqb (c.args.address % 1) 0 (omega arith)))

pub returns-in-2 : goal.returns-in-2
returns-in-2 c = rw c.in-2.is

pub returns-in-4 : goal.returns-in-4
returns-in-4 c = rw c.in-4.is
