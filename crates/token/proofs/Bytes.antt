-- Tests of bytes.
use Prim.Native.Nat.{ℕ, ◌≤◌}
use mathlib.Core.Bool.{Bool, true, false, ◌&&◌}
use mathlib.Core.Path.{◌≡◌, refl}
use borrow.Author.Tests.{leb-true}
use lib.Dec.{leb}
use Rattle.token.specs.Byte.{between}

pub and_left : (a b : Bool) → a && b ≡ true → a ≡ true
and_left true b e = refl
and_left false b e = e

pub at_least : (low high c : ℕ) → between low high c ≡ true → low ≤ c
at_least low high c e = leb-true low c (and_left (leb low c) (leb c high) e)
