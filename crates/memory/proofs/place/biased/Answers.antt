-- `place::lifted` meets its contract.
use borrow.Author.Tests.{le-leb, lt-leb}
use Rattle.memory.proofs.place.biased.Goals as goal

pub returns-then-offset-ge2147483648 : goal.returns-then-offset-ge2147483648
returns-then-offset-ge2147483648 c = simp (le-leb _ _ c.if-offset-ge2147483648.true)

pub returns-else-offset-ge2147483648 : goal.returns-else-offset-ge2147483648
returns-else-offset-ge2147483648 c = simp (lt-leb _ _ c.if-offset-ge2147483648.false)
