-- `heads::head_stands` meets its contract.
use Rattle.std.proofs.Common.{rules, ◌+◌, ◌≤◌, ◌<◌, length, sym, ◌∙◌}
use Rattle.image_layout.specs.Layout.{head_length}
use Rattle.image_layout.proofs.Standing.{head-short, head-within}
use Rattle.image_layout.proofs.heads.head_stands.Goals as goal

pub returns-then-at-image : goal.returns-then-at-image
returns-then-at-image c =
    let a = c.args in
    let k : a.at + head_length a.row.places ≤ length a.image.now = search rules in
    c.opens_with.ensures ∙ sym (head-within a.row a.i a.image.now a.at k)

pub returns-else-at-image : goal.returns-else-at-image
returns-else-at-image c =
    let a = c.args in
    let k : length a.image.now < a.at + head_length a.row.places = search rules in
    c.if-at-image.false ∙ head-short a.row a.i a.image.now a.at k
