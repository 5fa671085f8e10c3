-- `judge` meets its contract: what is read so far, and the lines that are left, are the whole file.
use Rattle.std.proofs.Common.{length}
use Rattle.intel_hex.proofs.Scanning.{Judging}
use Rattle.intel_hex.proofs.scan.judge.Given as goal

abbrev pub invariant-loop-rest : goal.invariant-loop-rest
invariant-loop-rest l = Judging l.text l.c l.line l.rest

abbrev pub decreases-loop-rest : goal.decreases-loop-rest
decreases-loop-rest l = length l.rest
