-- `outcome::compare_lanes` meets its contract: the mask keeps the answers of the lanes that are on.
use mathlib.Core.Path.{ap, ◌∙◌}
use Prim.Native.Nat.{ℕ}
use lib.Bits.{bit_and}
use Rattle.ordering.specs.Compare.{compare}
use Rattle.vector.specs.Lanes.{lane}
use Rattle.compares.specs.Lanes.{compare_lanes}
use Rattle.compares.specs.Outcome.{answers_of}
use Rattle.compares.proofs.LaneFlags.{masked}
use Rattle.compares.proofs.outcome.compare_lanes.Goals as goal

pub returns : goal.returns
unfolding answers_of compare_lanes
returns c =
    let a = c.args in
    ap (λ (n : ℕ). bit_and n a.mask) c.answers.ensures
    ∙ masked 16 a.mask (λ j. compare a.op (lane a.x j) (lane a.y j))
