-- `store` meets its contract: what is stored, and the lines that are left, are the whole file.
use Rattle.std.proofs.Common.{length}
use Rattle.intel_hex.proofs.Passing.{Storing}
use Rattle.intel_hex.proofs.storing.store.Given as goal

abbrev pub invariant-loop-end : goal.invariant-loop-end
invariant-loop-end l = Storing l.text l.initial.words l.p l.words l.rest

abbrev pub decreases-loop-end : goal.decreases-loop-end
decreases-loop-end l = length l.rest
