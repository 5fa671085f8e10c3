-- Laws of the loop that puts the lane masks into the register file.
use Prim.Native.Nat.{ℕ, ◌+◌}
use mathlib.Core.List.{List}
use mathlib.Core.Path.{◌≡◌}
use native.Mathlib.Numerals.{add-one}
use lib.ListN.{set}
use Rattle.machine.specs.State.{scalar_index, lane_mask_register}
use Rattle.interpreter.specs.Start.{with_masks}

-- one thread's s59 more
pub masks-more : (regs : List ℕ) (t : ℕ) → set (with_masks t regs) (scalar_index t lane_mask_register) 0xFFFF ≡ with_masks (t + 1) regs
unfolding with_masks
masks-more regs t = rw add-one
