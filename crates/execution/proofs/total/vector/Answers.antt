-- `total::vector` meets its contract: lane j is read at its place in the registers.
use Rattle.std.proofs.Common.{rules}
use Rattle.vector.proofs.Filling.{filled}
use Rattle.execution.specs.Registers.{vector}
use Rattle.execution.proofs.total.vector.Goals as goal

pub returns : goal.returns
unfolding vector
returns c = filled _ _ _ _ (λ j x d l k. search rules) c.from_fn.ensures.items
