-- `immediate::replace_lanes` meets its contract: lane j is made by one replacement.
use Rattle.std.proofs.Common.{rules}
use Rattle.vector.proofs.Filling.{filled}
use Rattle.execution.specs.Immediate.{replaced_lanes}
use Rattle.execution.proofs.immediate.replace_lanes.Goals as goal

pub returns : goal.returns
unfolding replaced_lanes
returns c = filled _ _ _ _ (λ j x d l k. search rules) c.from_fn.ensures.items
