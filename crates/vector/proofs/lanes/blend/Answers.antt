-- `lanes::blend` meets its contract: lane j is chosen by bit j of the mask.
use borrow.Author.Rules.{rules}
use Rattle.vector.specs.Lanes.{blended}
use Rattle.vector.proofs.Filling.{filled}
use Rattle.vector.proofs.lanes.blend.Goals as goal

pub returns : goal.returns
unfolding blended
returns c = filled _ _ _ _ (λ j x d l k. search rules) c.from_fn.ensures.items
