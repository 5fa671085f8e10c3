-- `program_byte` meets its contract: a byte is its word, divided.
use Prim.Native.Nat.{◌%◌}
use native.Mathlib.Omega.{arith}
use mathlib.Core.Path.{sym}
use Rattle.intel_hex.proofs.Words.{byte-get, power-some}
use Rattle.intel_hex.proofs.exporting.program_byte.Goals as goal

pub nonzero_div-result-2 : goal.nonzero_div-result-2
nonzero_div-result-2 c = power-some (c.args.k % 4) (omega arith)

pub returns : goal.returns
returns c = (sym (byte-get c.args.words.now c.args.k (omega arith)), omega arith)
