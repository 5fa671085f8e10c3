-- `lanes::each_integer_unary` meets its contract: lane j is filled by one operation.
use borrow.Author.Rules.{rules}
use Rattle.vector.proofs.Filling.{filled}
use Rattle.vector.proofs.lanes.each_integer_unary.Goals as goal

pub returns : goal.returns
returns c = filled _ _ _ _ (λ j x d l k. search rules) c.from_fn.ensures.items
