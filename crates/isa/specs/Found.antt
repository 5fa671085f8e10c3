-- What the code's look-ups by opcode say: what is found, if anything.
use Rattle.std.specs.Prelude as code
use Rattle.std.proofs.Math.Option.{Option, none, some}

abbrev pub found : {A : Type 0} → code.Option A → Option A
found (code.Some x) = some x
found code.None = none
