-- `saving::save` is safe: the image of an allowed memory fits its buffer.
use Prim.Native.Nat.{◌/◌}
use native.Mathlib.Omega.{arith}
use lib.ListN.{length}
use Rattle.image_layout.proofs.Rows.{whole_length, fixed-few}
use Rattle.image_layout.specs.Layout.{of_blocks}
use Rattle.image_layout.specs.declared.layout.Form.TheVariants.{Newest}
use Rattle.text.proofs.Shown.{shown}
use Rattle.runner.proofs.saving.save.Goals as goal

pub slice_bounds-image-end : goal.slice_bounds-image-end
slice_bounds-image-end g c = omega (arith, c.image_size-size.ensures, whole_length (of_blocks Newest (length c.args.memory.now / 64)), fixed-few Newest)

pub slice_bounds-save_by-end : goal.slice_bounds-save_by-end
slice_bounds-save_by-end g c = shown _ _ (omega (arith, c.image_size-size.ensures, whole_length (of_blocks Newest (length c.args.memory.now / 64)), fixed-few Newest))
