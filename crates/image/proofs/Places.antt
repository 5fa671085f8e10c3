-- The fixed places of an image: where each kind begins, and that the content of each record stands at its place.
use Prim.Native.Nat.{◌%◌}
use mathlib.Core.Bool.{Bool, true, false, ◌&&◌, cond, not}
use mathlib.Core.Path.{◌≡◌, refl, sym}
use borrow.Author.Tests.{eqb-true, eq-eqb, ne_eqb}
use native.Mathlib.Omega.{arith}
use lib.Dec.{eqb}
use lib.ListN.{length}
use Rattle.image_layout.specs.Join.{total}
use Rattle.image_layout.specs.Layout.{fixed_of, position_in, order_of, start_of}
use Rattle.answer.specs.Refusal.{fixed_part, old_fixed_part, block_record, image_length}
use Rattle.image.specs.Claims.{Begins, KnowsBothLengths, Placed}
use Rattle.image.proofs.Refusals.{memory-blocks, memory-whole}
use Rattle.image.proofs.Written.{body}
use Rattle.image.specs.Types.{Newest, Old}
use Rattle.machine.proofs.Tests.{never}

pub begins : Begins
unfolding start_of total order_of position_in
begins memory = (
  record { hd = refl; ti = refl; sr = refl; vr = refl; mm = refl; end = omega arith },
  record { hd = refl; ti = refl; sr = refl; vr = refl; mm = refl; end = omega arith },
)

pub placed : Placed
placed f s h =
    let n = length s.memory in
    body f s (record { room = h.room; whole = memory-whole n h.memory; few = memory-blocks n h.memory })

-- a length that says the old form is not that of the newest, and one that does not is not that of the old form
pub knows-both-lengths : KnowsBothLengths
knows-both-lengths bytes size = go (eqb (size % block_record) 24) refl
  where
    go : (b : Bool) → eqb (size % block_record) 24 ≡ b
        → not (eqb size (image_length (fixed_of (cond b Old Newest)) bytes))
        ≡ (not (eqb size (image_length fixed_part bytes)) && not (eqb size (image_length old_fixed_part bytes)))
    go true h = rw (ne_eqb size (image_length fixed_part bytes) (λ e. omega (arith, eqb-true (size % block_record) 24 h)))
    go false h = alone (not (eqb size (image_length fixed_part bytes))) (not (eqb size (image_length old_fixed_part bytes))) (rw (ne_eqb size (image_length old_fixed_part bytes) (λ e. other h e)))
      where
        other : eqb (size % block_record) 24 ≡ false → size ≡ image_length old_fixed_part bytes → ⊥
        other h e = never (eq-eqb (size % block_record) 24 (omega arith)) h

        alone : (x y : Bool) → y ≡ true → x ≡ (x && y)
        alone true y e = sym e
        alone false y e = refl
