-- `heads::kinds_stand` meets its contract.
use mathlib.Core.Bool.{true}
use mathlib.Core.Path.{◌≡◌}
use Rattle.image_layout.specs.Join.{all_below}
use Rattle.image_layout.specs.Layout.{row_of, kind_at, start_of, heads_of}
use Rattle.image.proofs.heads.kinds_stand.Given as goal

abbrev pub invariant-loop-position : goal.invariant-loop-position
invariant-loop-position l = (l.at ≡ start_of l.shape l.position) × (all_below l.position (λ q. heads_of (row_of l.shape (kind_at q)) l.image (start_of l.shape q)) ≡ true)
