-- `sum_of` meets its contract: what is left of the digits, added to the sum, is the whole.
use Rattle.std.proofs.Common.{◌≡◌, ◌<◌, length}
use Rattle.intel_hex.specs.Digits.{pairs}
use Rattle.intel_hex.specs.Scan.{digested}
use Rattle.intel_hex.proofs.digits.sum_of.Given as goal

abbrev pub invariant-loop-rest : goal.invariant-loop-rest
invariant-loop-rest l = (l.sum < 256) × (digested 0 (pairs l.digits) ≡ digested l.sum (pairs l.rest))

abbrev pub decreases-loop-rest : goal.decreases-loop-rest
decreases-loop-rest l = length l.rest
