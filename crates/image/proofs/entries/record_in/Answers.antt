-- `entries::record_in` meets its contract.
use mathlib.Core.Bool.{true, false}
use mathlib.Core.Path.{sym, ap, ◌∙◌}
use native.Mathlib.Omega.{arith}
use Rattle.std.proofs.lemmas.Result.{err_from_is_err_and}
use Rattle.answer.specs.Answer.{given, refused}
use Rattle.image_layout.proofs.Rows.{hd-order}
use Rattle.image_layout.specs.Layout.{record_kinds}
use Rattle.image.specs.Answer.{given_if}
use Rattle.image.specs.Image.{machine_in}
use Rattle.image.specs.Types.{Hd}
use Rattle.image.proofs.RecordIn.{body-room-in, machine-read, record-read, record-unread, given_if-refused, given_if-given}
use Rattle.image.proofs.entries.record_in.Goals as goal

pub overflow_add-machine : goal.overflow_add-machine
overflow_add-machine c = omega (arith, c.first_body-at.ensures, body-room-in c.args.shape Hd record_kinds 0 _ (omega (arith, hd-order)) (omega arith) c.requires)

pub bounds-image-at : goal.bounds-image-at
bounds-image-at c = omega (arith, c.first_body-at.ensures, body-room-in c.args.shape Hd record_kinds 0 _ (omega (arith, hd-order)) (omega arith) c.requires)

pub bounds-image-at-2 : goal.bounds-image-at-2
bounds-image-at-2 c = omega (arith, c.first_body-at.ensures, body-room-in c.args.shape Hd record_kinds 0 _ (omega (arith, hd-order)) (omega arith) c.requires)

pub returns-in_err-entries_in : goal.returns-in_err-entries_in
returns-in_err-entries_in c =
    let a = c.args in
    let p = err_from_is_err_and c.from_residual.result c.from_residual.ensures.1 in
    let k = given_if-refused _ _ _ c.in_err-entries_in.ensures in
    rw (p.1, p.2) (ap refused k.1 ∙ sym (ap (λ z. given_if z (machine_in a.shape a.image.now)) (record-unread a.shape a.image.now k.0)))

pub returns-then-well_formed : goal.returns-then-well_formed
returns-then-well_formed c =
    let a = c.args in
    let k = given_if-given _ _ _ c.in_ok-entries_in.ensures in
    let m = machine-read a.shape a.image.now c.first_body-at.result c.first_body-at.ensures c.in_ok-entries_in.field-0 k.1 in
    ap given m ∙ ap (λ z. given_if z (machine_in a.shape a.image.now)) (record-read a.shape a.image.now _ true true (sym k.0) m c.if-well_formed.ensures)

pub returns-else-well_formed : goal.returns-else-well_formed
returns-else-well_formed c =
    let a = c.args in
    let k = given_if-given _ _ _ c.in_ok-entries_in.ensures in
    let m = machine-read a.shape a.image.now c.first_body-at.result c.first_body-at.ensures c.in_ok-entries_in.field-0 k.1 in
    ap (λ z. given_if z (machine_in a.shape a.image.now)) (record-read a.shape a.image.now _ true false (sym k.0) m c.if-well_formed.ensures)
