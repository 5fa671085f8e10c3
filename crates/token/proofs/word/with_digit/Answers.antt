use native.Mathlib.Omega.{arith}
use borrow.Author.Tests.{lt-ltb, le-ltb}
use Rattle.token.specs.Word.{cap}
use Rattle.token.proofs.Numbers.{small_product}
use Rattle.token.proofs.word.with_digit.Goals as goal

pub overflow_mul-more : goal.overflow_mul-more
overflow_mul-more c = omega (arith, small_product _ _ c.requires.0 c.requires.1)

pub overflow_add-more : goal.overflow_add-more
overflow_add-more c = omega (arith, small_product _ _ c.requires.0 c.requires.1)

pub returns-then-more-gt2147483648 : goal.returns-then-more-gt2147483648
unfolding cap
returns-then-more-gt2147483648 c = rw (lt-ltb 0x80000000 _ c.if-more-gt2147483648.true)

pub returns-else-more-gt2147483648 : goal.returns-else-more-gt2147483648
unfolding cap
returns-else-more-gt2147483648 c = rw (le-ltb 0x80000000 _ c.if-more-gt2147483648.false)
