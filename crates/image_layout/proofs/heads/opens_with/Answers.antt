-- `heads::opens_with` meets its contract.
use Prim.Native.Nat.{◌+◌}
use mathlib.Core.Bool.{◌&&◌}
use mathlib.Core.Path.{sym, ap, ◌∙◌}
use lib.Dec.{eqb}
use lib.ListN.{get_or}
use Rattle.image_layout.specs.Layout.{places_of}
use Rattle.image_layout.proofs.Standing.{stands-more}
use Rattle.image_layout.proofs.heads.opens_with.Goals as goal

pub returns : goal.returns
returns c =
    let a = c.args in
    let l = a.image.now in
    ap (λ b. eqb (get_or l a.at 0) a.row.first && eqb (get_or l (a.at + 1) 0) a.row.second && b) c.places_stand.ensures
    ∙ sym (stands-more l a.at a.row.first a.row.second (places_of a.row.places a.i))
