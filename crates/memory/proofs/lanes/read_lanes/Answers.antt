-- `lanes::read_lanes` meets its contract: lane j is filled by the number at its place.
use borrow.Author.Rules.{rules}
use Rattle.vector.proofs.Filling.{filled}
use Rattle.memory.specs.Operation.{lanes_at}
use Rattle.memory.proofs.lanes.read_lanes.Goals as goal

pub returns : goal.returns
unfolding lanes_at
returns c = filled _ _ _ _ (λ j x d l k. search rules) c.from_fn.ensures.items
