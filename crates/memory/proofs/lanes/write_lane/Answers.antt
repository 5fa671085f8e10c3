-- `lanes::write_lane` meets its contract.
use Rattle.memory.proofs.lanes.write_lane.Goals as goal

pub returns-then-on : goal.returns-then-on
returns-then-on c = rw c.if-on.true c.write32.ensures
