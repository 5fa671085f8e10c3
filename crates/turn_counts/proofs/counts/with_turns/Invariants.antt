-- `with_turns` meets its contract.
use Rattle.std.proofs.Common.{◌≡◌}
use Rattle.machine.proofs.Loops.{changed, recounting}
use Rattle.turn_counts.proofs.counts.with_turns.Given as goal

abbrev pub invariant-loop-t : goal.invariant-loop-t
invariant-loop-t l = l.entry-items ≡ changed (recounting l.turns) l.fn.machine.threads l.t
