-- `heads::heads_stand` meets its contract.
use mathlib.Core.Bool.{true}
use mathlib.Core.Path.{◌≡◌}
use Rattle.image_layout.specs.Join.{all_below}
use Rattle.image_layout.specs.Layout.{head_of, record_at, stands_at}
use Rattle.image.proofs.heads.heads_stand.Given as goal

abbrev pub invariant-loop-i : goal.invariant-loop-i
invariant-loop-i l = (l.p ≡ record_at l.row l.at l.i) × (all_below l.i (λ k. stands_at (head_of l.row k) l.image (record_at l.row l.at k)) ≡ true)
