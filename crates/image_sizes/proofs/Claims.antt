-- The claims of specs/, proved.
use Prim.Native.Nat.{ℕ, ◌*◌, ◌-◌, ◌/◌, ◌%◌}
use mathlib.Core.Bool.{Bool, true, false, ◌||◌, not}
use mathlib.Core.Path.{◌≡◌, ap, ◌∙◌}
use native.Mathlib.Omega.{arith}
use borrow.Author.Tests.{eqb-true, not-false}
use lib.Dec.{eqb, ltb}
use Rattle.answer.specs.Refusal.{block_bytes, memory_bytes, bad_memory, image_length}
use Rattle.image_layout.proofs.Rows.{form-told}
use Rattle.image_layout.specs.Layout.{fixed_of}
use Rattle.image_sizes.specs.Claims.{MemoryFound}

-- an allowed memory has whole blocks
whole : (bytes : ℕ) → bad_memory bytes ≡ false → bytes % block_bytes ≡ 0
whole bytes h =
    eqb-true (bytes % block_bytes) 0
    (not-false (eqb (bytes % block_bytes) 0) (last (ltb bytes block_bytes || ltb memory_bytes bytes) (not (eqb (bytes % block_bytes) 0)) h))
  where
    last : (a b : Bool) → (a || b) ≡ false → b ≡ false
    last true b h = absurd (let z : ◌≡◌ {A = ℕ} 0 1 = cc in omega arith)
    last false b h = h

pub memory_found : MemoryFound
memory_found f bytes h =
    ap (λ g. block_bytes * ((image_length (fixed_of f) bytes - fixed_of g) / 68)) (form-told f bytes) ∙ omega (arith, whole bytes h)
