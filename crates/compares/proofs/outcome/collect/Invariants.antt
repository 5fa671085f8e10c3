-- `outcome::collect` meets its contract: the first j bits are those of the answers, whatever they are.
use Rattle.std.proofs.Common.{◌≡◌, ℕ, ◌<◌, Bool}
use Rattle.vector.specs.Lanes.{lane}
use Rattle.compares.specs.Outcome.{flags_of}
use Rattle.compares.proofs.LaneFlags.{Collecting}
use Rattle.compares.proofs.outcome.collect.Given as goal

abbrev pub invariant-loop-j : goal.invariant-loop-j
invariant-loop-j g l =
    (f : ℕ → Bool) → ((k r : ℕ) → k < 16 → goal.F-post g l.flags_at (lane l.x k) (lane l.y k) r → r ≡ flags_of (f k)) → Collecting f l.r l.j
