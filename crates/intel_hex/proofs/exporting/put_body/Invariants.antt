-- `put_body` meets its contract: after k turns the first k records stand in the buffer.
use mathlib.Core.Path.{◌≡◌}
use lib.ListN.{length}
use Rattle.text.specs.Buffer.{wrote, writes}
use Rattle.intel_hex.specs.Export.{body}
use Rattle.intel_hex.specs.Program.{program_bytes}
use Rattle.intel_hex.proofs.exporting.put_body.Given as goal

abbrev pub invariant-loop-k : goal.invariant-loop-k
invariant-loop-k l = (wrote l.p l.out ≡ writes l.initial.out 0 (body (program_bytes l.words) l.k)) × (l.p ≡ length (body (program_bytes l.words) l.k))
