-- `number_of` meets its contract: after i turns the bytes from i on are still to be read.
use Rattle.std.proofs.Common.{◌≡◌, drop}
use Rattle.std.proofs.Math.Option.{some}
use Rattle.text.specs.Argument.{with_digits}
use Rattle.text.proofs.parsing.number_of.Given as goal

abbrev pub invariant-loop-byte : goal.invariant-loop-byte
invariant-loop-byte l = with_digits (some l.read) (drop l.byte-index l.text) ≡ with_digits (some 0) l.text
