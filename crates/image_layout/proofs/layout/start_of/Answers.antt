-- `layout::start_of` meets its contract.
use Prim.Native.Nat.{◌+◌, ◌<◌}
use mathlib.Core.Path.{◌≡◌, sym, ap, ◌∙◌}
use native.Mathlib.Omega.{arith}
use lib.ListN.{length, take}
use lib.Seq.{get_or-take, length-take-le}
use Rattle.image_layout.specs.Types.{Hd}
use Rattle.image_layout.specs.Layout.{order, row_of, kind_at, extent_of, start_of}
use Rattle.image_layout.proofs.Rows.{extent-few, order-few, start_none, start-next}
use Rattle.image_layout.proofs.layout.start_of.Goals as goal

pub shared_ref_as_front-before-items : goal.shared_ref_as_front-before-items
shared_ref_as_front-before-items c = omega (arith, c.order_of.ensures, order-few c.args.kind)

pub loop-before-init : goal.loop-before-init
loop-before-init c = (start_none c.args.shape, omega arith)

pub loop-before-preserved : goal.loop-before-preserved
loop-before-preserved c =
    let a = c.args in
    let l = c.loop-before in
    let n = c.order_of.result in
    let q = l.before-index in
    let whole : length (take n order) ≡ n = length-take-le n order (omega (arith, c.order_of.ensures, order-few a.kind)) in
    let h : q < n = omega (arith, c.loop-before-test.true, whole) in
    let e : c.extent_of-at.result ≡ extent_of (row_of a.shape (kind_at q)) = c.extent_of-at.ensures ∙ ap (λ k. extent_of (row_of a.shape k)) (get_or-take n order q Hd h) in (
      ap (λ n. n + c.extent_of-at.result) l.invariant.0 ∙ (ap (λ n. start_of a.shape q + n) e ∙ sym (start-next a.shape q)),
      omega (arith, e, l.invariant.1, extent-few a.shape (kind_at q) (omega arith)),
    )

pub returns : goal.returns
returns c =
    let n = c.order_of.result in
    let q = c.loop-before.before-index in
    let whole : length (take n order) ≡ n = length-take-le n order (omega (arith, c.order_of.ensures, order-few c.args.kind)) in
    let e : q ≡ n = omega (arith, c.loop-before.auto.before-index-end, c.loop-before-test.false, whole) in
    c.loop-before.invariant.0 ∙ ap (start_of c.args.shape) (e ∙ c.order_of.ensures)
