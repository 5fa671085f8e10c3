-- What an allowed length says.
use Prim.Native.Nat.{ℕ, ◌≤◌, ◌%◌}
use mathlib.Core.Bool.{Bool, true, false, ◌||◌, not}
use mathlib.Core.Path.{◌≡◌, refl}
use borrow.Author.Tests.{ltb-false}
use lib.Dec.{ltb, eqb}
use Rattle.answer.specs.Refusal.{block_bytes, memory_bytes, bad_memory}

-- an allowed memory has 65,536 bytes at the most
pub memory_most : (bytes : ℕ) → bad_memory bytes ≡ false → bytes ≤ memory_bytes
memory_most bytes h = ltb-false memory_bytes bytes (second (ltb bytes block_bytes) (ltb memory_bytes bytes) (not (eqb (bytes % block_bytes) 0)) h)
  where
    second : (a b c : Bool) → (a || b || c) ≡ false → b ≡ false
    second true true c h = h
    second false true c h = h
    second a false c h = refl
