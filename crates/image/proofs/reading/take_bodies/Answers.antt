-- `reading::take_bodies` meets its contract.
use Prim.Native.Nat.{◌+◌, ◌*◌, ◌<◌}
use mathlib.Core.Path.{◌≡◌, ap, ◌∙◌}
use native.Mathlib.Nat.{mul-suc}
use native.Mathlib.Numerals.{add-one}
use lib.ListN.{drop}
use Rattle.image_layout.proofs.Join.{fits_in, grown-start, grown-join, grown-end, grown-new, grown-same}
use Rattle.image_layout.proofs.Rows.{size_few}
use Rattle.image_layout.specs.Layout.{row_of, record_size}
use Rattle.little_endian.specs.Numbers.{words_of}
use Rattle.image.proofs.RecordIn.{fixed-place, body-room}
use Rattle.image.proofs.Rooms.{room-read}
use native.Mathlib.Omega.{arith}
use Rattle.image.proofs.reading.take_bodies.Goals as goal

pub take_words-requires : goal.take_words-requires
take_words-requires c =
    let a = c.args in
    let place = fixed-place a.shape a.kind c.first_body-at.result c.record_size-size.result c.first_body-at.ensures (c.record_size-size.ensures ∙ ap record_size c.row_of-row.ensures) in
    let e : c.row_of-row.result.count ≡ (row_of a.shape a.kind).count = ap (λ r. r.count) c.row_of-row.ensures in
    let l = c.loop-i in
    let t : l.i < (row_of a.shape a.kind).count = omega (arith, e, c.loop-i-test.true) in
    let room = body-room a.shape a.kind l.i _ t c.requires.0 in
    (omega (arith, l.invariant.0, place l.i, room, c.requires.1), omega (arith, l.invariant.1, l.invariant.2.size, fits_in (4 * a.n) l.i (row_of a.shape a.kind).count t, c.requires.2))

pub overflow_add-at : goal.overflow_add-at
overflow_add-at c =
    let a = c.args in
    let place = fixed-place a.shape a.kind c.first_body-at.result c.record_size-size.result c.first_body-at.ensures (c.record_size-size.ensures ∙ ap record_size c.row_of-row.ensures) in
    let e : c.row_of-row.result.count ≡ (row_of a.shape a.kind).count = ap (λ r. r.count) c.row_of-row.ensures in
    let l = c.loop-i in
    let t : l.i < (row_of a.shape a.kind).count = omega (arith, e, c.loop-i-test.true) in
    let room = body-room a.shape a.kind l.i _ t c.requires.0 in
    omega (arith, l.invariant.0, place l.i, c.record_size-size.ensures ∙ ap record_size c.row_of-row.ensures, size_few a.shape a.kind, room)

pub overflow_add-next : goal.overflow_add-next
overflow_add-next c =
    let a = c.args in
    let e : c.row_of-row.result.count ≡ (row_of a.shape a.kind).count = ap (λ r. r.count) c.row_of-row.ensures in
    let l = c.loop-i in
    let t : l.i < (row_of a.shape a.kind).count = omega (arith, e, c.loop-i-test.true) in
    omega (arith, l.invariant.1, l.invariant.2.size, fits_in (4 * a.n) l.i (row_of a.shape a.kind).count t, c.requires.2)

pub loop-i-preserved : goal.loop-i-preserved
loop-i-preserved c =
    let a = c.args in
    let l = c.loop-i in
    let at = c.first_body-at.result in
    let size = c.record_size-size.result in
    let x = ap (λ p. words_of (4 * a.n) (drop p a.image.now)) l.invariant.0 in (
      omega (arith, l.invariant.0, mul-suc size l.i, ap (λ n. size * n) (add-one l.i)),
      omega (arith, l.invariant.1, mul-suc (4 * a.n) l.i, ap (λ n. 4 * a.n * n) (add-one l.i)),
      grown-join l.i (λ k. words_of (4 * a.n) (drop (at + size * k) a.image.now)) l.invariant.2 (grown-new x c.take_words.ensures),
    )

pub returns : goal.returns
returns c =
    let a = c.args in
    let place = fixed-place a.shape a.kind c.first_body-at.result c.record_size-size.result c.first_body-at.ensures (c.record_size-size.ensures ∙ ap record_size c.row_of-row.ensures) in
    let e : c.row_of-row.result.count ≡ (row_of a.shape a.kind).count = ap (λ r. r.count) c.row_of-row.ensures in
    let l = c.loop-i in
    let at = c.first_body-at.result in
    let size = c.record_size-size.result in
    let g = grown-end l.i (row_of a.shape a.kind).count (λ k. words_of (4 * a.n) (drop (at + size * k) a.image.now)) l.invariant.2 (omega (arith, e, l.auto.i-end)) (omega (arith, e, c.loop-i-test.false)) in
    let f : l.i ≡ (row_of a.shape a.kind).count = omega (arith, e, l.auto.i-end, c.loop-i-test.false) in
    grown-same _ (l.invariant.1 ∙ ap (λ i. a.from + 4 * a.n * i) f) (grown-new (room-read a.shape a.image.now a.kind (4 * a.n) at size (omega (arith, c.requires.1)) place) g)

pub loop-i-init : goal.loop-i-init
loop-i-init c = (omega arith, omega arith, grown-start _ _ _)

pub overflow_mul-next : goal.overflow_mul-next
overflow_mul-next c = omega (arith, c.requires.1, size_few c.args.shape c.args.kind)

pub shape_of-registers : goal.shape_of-registers
shape_of-registers c = c.loop-i.invariant.2.size
