-- `starting::set_masks` meets its contract.
use Prim.Native.Nat.{◌-◌, ◌≤◌}
use mathlib.Core.Path.{◌≡◌}
use lib.ListN.{length}
use Rattle.interpreter.specs.Start.{with_masks}
use Rattle.interpreter.proofs.starting.set_masks.Given as goal

abbrev pub invariant-loop-thread : goal.invariant-loop-thread
invariant-loop-thread l = (l.thread ≤ 8) × (length l.registers ≡ length l.initial.registers) × (l.registers ≡ with_masks l.thread l.initial.registers)

abbrev pub decreases-loop-thread : goal.decreases-loop-thread
decreases-loop-thread l = 8 - l.thread
