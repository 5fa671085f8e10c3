-- `reading::take_memory` meets its contract.
use Prim.Native.Nat.{◌+◌, ◌*◌, ◌<◌}
use mathlib.Core.Path.{◌≡◌, sym, ap, ◌∙◌}
use native.Mathlib.Nat.{mul-suc}
use native.Mathlib.Numerals.{add-one}
use lib.ListN.{take, drop}
use Rattle.image_layout.proofs.Join.{grown-start, grown-join, grown-end, grown-new, grown-whole}
use Rattle.image_layout.specs.Layout.{row_of, record_size}
use Rattle.image.specs.Types.{Mm}
use Rattle.image.proofs.RecordIn.{fixed-place, body-room}
use Rattle.image.proofs.Rooms.{memory-read, memory-length}
use native.Mathlib.Omega.{arith}
use Rattle.image.proofs.reading.take_memory.Goals as goal

pub copy_sixteens-requires : goal.copy_sixteens-requires
copy_sixteens-requires c =
    let a = c.args in
    let place = fixed-place a.shape Mm c.first_body-at.result c.record_size-size.result c.first_body-at.ensures (c.record_size-size.ensures ∙ ap record_size c.row_of-row.ensures) in
    let e : c.row_of-row.result.count ≡ (row_of a.shape Mm).count = ap (λ r. r.count) c.row_of-row.ensures in
    let l = c.loop-i in
    let t : l.i < (row_of a.shape Mm).count = omega (arith, e, c.loop-i-test.true) in
    let room = body-room a.shape Mm l.i _ t c.requires.0 in
    (omega (arith, l.invariant.0, place l.i, room), omega (arith, l.invariant.1, l.invariant.2.size, t, c.requires.1))

pub overflow_add-at : goal.overflow_add-at
overflow_add-at c =
    let a = c.args in
    let place = fixed-place a.shape Mm c.first_body-at.result c.record_size-size.result c.first_body-at.ensures (c.record_size-size.ensures ∙ ap record_size c.row_of-row.ensures) in
    let e : c.row_of-row.result.count ≡ (row_of a.shape Mm).count = ap (λ r. r.count) c.row_of-row.ensures in
    let l = c.loop-i in
    let t : l.i < (row_of a.shape Mm).count = omega (arith, e, c.loop-i-test.true) in
    let room = body-room a.shape Mm l.i _ t c.requires.0 in
    omega (arith, l.invariant.0, place l.i, c.record_size-size.ensures ∙ ap record_size c.row_of-row.ensures, room)

pub overflow_add-next : goal.overflow_add-next
overflow_add-next c =
    let a = c.args in
    let e : c.row_of-row.result.count ≡ (row_of a.shape Mm).count = ap (λ r. r.count) c.row_of-row.ensures in
    let l = c.loop-i in
    let t : l.i < (row_of a.shape Mm).count = omega (arith, e, c.loop-i-test.true) in
    omega (arith, l.invariant.1, t)

pub loop-i-preserved : goal.loop-i-preserved
loop-i-preserved c =
    let image = c.args.image.now in
    let l = c.loop-i in
    let at = c.first_body-at.result in
    let size = c.record_size-size.result in
    let x = ap (λ p. take 64 (drop p image)) l.invariant.0 in (
      omega (arith, l.invariant.0, mul-suc size l.i, ap (λ n. size * n) (add-one l.i)),
      omega (arith, l.invariant.1),
      grown-join l.i (λ k. take 64 (drop (at + size * k) image)) l.invariant.2 (grown-new x c.copy_sixteens.ensures),
    )

pub returns : goal.returns
returns c =
    let a = c.args in
    let place = fixed-place a.shape Mm c.first_body-at.result c.record_size-size.result c.first_body-at.ensures (c.record_size-size.ensures ∙ ap record_size c.row_of-row.ensures) in
    let e : c.row_of-row.result.count ≡ (row_of a.shape Mm).count = ap (λ r. r.count) c.row_of-row.ensures in
    let l = c.loop-i in
    let image = a.image.now in
    let at = c.first_body-at.result in
    let size = c.record_size-size.result in
    let g = grown-end l.i a.shape.blocks (λ k. take 64 (drop (at + size * k) image)) l.invariant.2 (omega (arith, e, l.auto.i-end)) (omega (arith, e, c.loop-i-test.false)) in
    grown-whole (grown-new (memory-read a.shape image at size place) g) (memory-length a.shape image c.requires.0 ∙ sym c.requires.1)

pub loop-i-init : goal.loop-i-init
loop-i-init c = (omega arith, omega arith, grown-start _ 0 _)

pub shape_of-memory : goal.shape_of-memory
shape_of-memory c = c.loop-i.invariant.2.size
