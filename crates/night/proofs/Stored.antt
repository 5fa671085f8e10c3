-- What the box writes to memory leaves it as long as it was.
use Prim.Native.Nat.{ℕ, ◌≤◌}
use mathlib.Core.List.{List}
use mathlib.Core.Path.{◌≡◌}
use native.Mathlib.Omega.{arith}
use lib.ListN.{length, length-drop}
use Rattle.night.specs.Bytes.{with_reading}

pub length-reading : (l : List ℕ) (minute skipped : ℕ) → 8 ≤ length l → length (with_reading l minute skipped) ≡ length l
unfolding with_reading
length-reading l minute skipped h = omega (arith, length-drop 8 l)
