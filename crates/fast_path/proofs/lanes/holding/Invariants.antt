-- `lanes::holding` meets its contract: bit j is filled by the answer of lane j.
use Rattle.compares.proofs.LaneFlags.{Collecting}
use Rattle.ordering.specs.Compare.{compare}
use Rattle.vector.specs.Lanes.{lane}
use Rattle.fast_path.proofs.lanes.holding.Given as goal

abbrev pub invariant-loop-j : goal.invariant-loop-j
invariant-loop-j l = Collecting (λ n. compare l.op (lane l.a-items n) (lane l.y n)) l.r l.j
