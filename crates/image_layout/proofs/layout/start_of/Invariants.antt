-- `layout::start_of` meets its contract.
use Prim.Native.Nat.{◌*◌, ◌≤◌}
use mathlib.Core.Path.{◌≡◌}
use Rattle.image_layout.specs.Layout.{start_of}
use Rattle.image_layout.proofs.layout.start_of.Given as goal

abbrev pub invariant-loop-before : goal.invariant-loop-before
invariant-loop-before l = (l.at ≡ start_of l.shape l.before-index) × (l.at ≤ 4456380 * l.before-index)
