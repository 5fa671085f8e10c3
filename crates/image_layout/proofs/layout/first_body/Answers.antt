-- `layout::first_body` meets its contract.
use mathlib.Core.Path.{ap, ◌∙◌}
use Rattle.image_layout.specs.Layout.{row_of, head_length}
use Rattle.image_layout.proofs.Rows.{places-few, kind-room, whole_length, fixed-few}
use native.Mathlib.Omega.{arith}
use Rattle.image_layout.proofs.layout.first_body.Goals as goal

pub overflow_add-result : goal.overflow_add-result
overflow_add-result c =
    let a = c.args in
    let h = ap (λ r. head_length r.places) c.row_of.ensures in
    omega (arith, c.start_of.ensures, c.head_length.ensures ∙ h, kind-room a.shape a.kind, whole_length a.shape, fixed-few a.shape.form, places-few (row_of a.shape a.kind).places)
