-- What is read stays a part of the buffer, and the buffer keeps its length.
use Rattle.std.proofs.Common.{length, ◌-◌}
use Rattle.io.specs.Counts.{IsPrefixLen}
use Rattle.files.proofs.reading.read_stream.Given as goal

abbrev pub invariant-loop-size : goal.invariant-loop-size
invariant-loop-size g l = IsPrefixLen l.size l.buf

abbrev pub decreases-loop-size : goal.decreases-loop-size
decreases-loop-size g l = length l.initial.buf - l.size
