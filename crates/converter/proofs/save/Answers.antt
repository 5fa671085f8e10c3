-- `save` is safe: the image of an allowed memory fits its buffer.
use Prim.Native.Nat.{◌/◌}
use native.Mathlib.Omega.{arith}
use lib.ListN.{length}
use Rattle.image_layout.proofs.Rows.{whole_length, fixed-few}
use Rattle.image_layout.specs.Layout.{of_blocks}
use Rattle.text.proofs.Shown.{shown}
use Rattle.converter.proofs.save.Goals as goal

pub slice_bounds-image-end : goal.slice_bounds-image-end
slice_bounds-image-end g c = omega (arith, c.image_size-size.ensures, whole_length (of_blocks c.args.settings.form (length c.args.memory.now / 64)), fixed-few c.args.settings.form)

pub slice_bounds-save_by-end : goal.slice_bounds-save_by-end
slice_bounds-save_by-end g c = shown _ _ (omega (arith, c.image_size-size.ensures, whole_length (of_blocks c.args.settings.form (length c.args.memory.now / 64)), fixed-few c.args.settings.form))
