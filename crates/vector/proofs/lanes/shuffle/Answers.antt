-- `lanes::shuffle` meets its contract: lane j is read from x, which the loop does not write.
use borrow.Author.Rules.{rules}
use Rattle.vector.specs.Lanes.{shuffled}
use Rattle.vector.proofs.Filling.{filled}
use Rattle.vector.proofs.lanes.shuffle.Goals as goal

pub returns : goal.returns
unfolding shuffled
returns c = filled _ _ _ _ (λ j x d l k. search rules) c.from_fn.ensures.items
