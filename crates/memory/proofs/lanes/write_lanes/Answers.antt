-- `lanes::write_lanes` meets its contract: step j stores lane j, if it is on.
use borrow.Author.Rules.{rules}
use Rattle.memory.specs.Operation.{with_lanes}
use Rattle.memory.proofs.Stepping.{start, more, whole}
use Rattle.memory.proofs.lanes.write_lanes.Goals as goal

pub loop-j-preserved : goal.loop-j-preserved
loop-j-preserved c =
    more c.loop-j.invariant (search rules) c.write_lane.auto.memory
    (rw c.is_on.ensures at c.write_lane.ensures)

pub returns : goal.returns
unfolding with_lanes
returns c = whole c.loop-j.invariant (search rules)

pub loop-j-init : goal.loop-j-init
loop-j-init c = start _ _ _

pub shape_of-memory : goal.shape_of-memory
shape_of-memory c = c.loop-j.invariant.size
