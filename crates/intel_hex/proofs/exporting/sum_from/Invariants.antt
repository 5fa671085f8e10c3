-- `sum_from` meets its contract: after i turns the first i bytes are added.
use Prim.Native.Nat.{◌+◌, ◌%◌, ◌<◌}
use mathlib.Core.Path.{◌≡◌}
use lib.ListN.{take, drop}
use Rattle.intel_hex.specs.Digits.{total}
use Rattle.intel_hex.specs.Program.{program_bytes}
use Rattle.intel_hex.proofs.exporting.sum_from.Given as goal

abbrev pub invariant-loop-i : goal.invariant-loop-i
invariant-loop-i l = (l.s < 256) × (l.s ≡ (l.sum + total (take l.i (drop l.from (program_bytes l.words)))) % 256)
