-- `put_bytes` meets its contract: after i turns the first i bytes stand in the buffer.
use Prim.Native.Nat.{◌+◌, ◌*◌}
use mathlib.Core.Path.{◌≡◌}
use lib.ListN.{take, drop}
use Rattle.text.specs.Buffer.{wrote, writes}
use Rattle.intel_hex.specs.Digits.{hexes}
use Rattle.intel_hex.specs.Program.{program_bytes}
use Rattle.intel_hex.proofs.exporting.put_bytes.Given as goal

abbrev pub invariant-loop-i : goal.invariant-loop-i
invariant-loop-i l = (wrote l.p l.out ≡ writes l.initial.out l.at (hexes (take l.i (drop l.from (program_bytes l.words))))) × (l.p ≡ l.at + 2 * l.i)
