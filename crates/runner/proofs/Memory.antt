-- How long a part of a memory can be.
use Prim.Native.Nat.{ℕ, ◌≤◌}
use mathlib.Core.List.{List}
use native.Mathlib.Omega.{arith}
use lib.ListN.{length, take}
use Rattle.text.proofs.Shown.{shown}

pub part_small : (r n : ℕ) (b : List ℕ) → r ≤ length b → r ≤ n → length (take r b) ≤ n
part_small r n b h g = omega (arith, shown r b h, g)
