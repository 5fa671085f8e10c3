-- `heads::kinds_stand` meets its contract.
use Prim.Native.Nat.{◌+◌}
use mathlib.Core.Path.{◌≡◌, sym, ap, ◌∙◌}
use Rattle.image_layout.specs.Layout.{row_of, kind_at, extent_of, start_of, heads_of}
use Rattle.image_layout.proofs.Rows.{start_none, start-next, start-room}
use Rattle.image_layout.proofs.Tests.{all_none, all_more, all-less, all-stop}
use Rattle.image.proofs.Bodies.{numbered}
use native.Mathlib.Omega.{arith}
use Rattle.image.proofs.heads.kinds_stand.Goals as goal

pub heads_stand-requires : goal.heads_stand-requires
heads_stand-requires c =
    let a = c.args in
    let l = c.loop-position in
    let e = c.row_of.ensures ∙ ap (row_of a.shape) c.kind_at-kind.ensures in
    rw e (numbered a.shape (omega arith) (kind_at l.position), omega (arith, l.invariant.0, start-room a.shape l.position a.n c.loop-position-test.true, c.requires))

pub returns-then-not-heads_stand : goal.returns-then-not-heads_stand
returns-then-not-heads_stand c =
    let a = c.args in
    let l = c.loop-position in
    let e = c.row_of.ensures ∙ ap (row_of a.shape) c.kind_at-kind.ensures in
    let f = sym c.heads_stand.ensures ∙ c.if-not-heads_stand.true in
    sym (all-less a.n l.position (λ q. heads_of (row_of a.shape (kind_at q)) a.image.now (start_of a.shape q)) c.loop-position-test.true (rw (← l.invariant.0, ← e) f))

pub overflow_add-at : goal.overflow_add-at
overflow_add-at c =
    let a = c.args in
    let l = c.loop-position in
    let e : c.extent_of-at.result ≡ extent_of (row_of a.shape (kind_at l.position)) = c.extent_of-at.ensures ∙ ap (λ k. extent_of (row_of a.shape k)) c.kind_at-kind.ensures in
    omega (arith, e, l.invariant.0, start-room a.shape l.position a.n c.loop-position-test.true, c.requires)

pub loop-position-preserved : goal.loop-position-preserved
loop-position-preserved c =
    let a = c.args in
    let l = c.loop-position in
    let k = c.kind_at-kind.ensures in
    let e : c.extent_of-at.result ≡ extent_of (row_of a.shape (kind_at l.position)) = c.extent_of-at.ensures ∙ ap (λ k. extent_of (row_of a.shape k)) k in
    let r = c.row_of.ensures ∙ ap (row_of a.shape) k in
    let f = sym c.heads_stand.ensures ∙ c.if-not-heads_stand.false in (
      ap (λ n. l.at + n) e ∙ (ap (λ n. n + extent_of (row_of a.shape (kind_at l.position))) l.invariant.0 ∙ sym (start-next a.shape l.position)),
      all_more l.position (λ q. heads_of (row_of a.shape (kind_at q)) a.image.now (start_of a.shape q)) l.invariant.1 (rw (← l.invariant.0, ← r) f),
    )

pub returns : goal.returns
returns c =
    let a = c.args in
    let l = c.loop-position in
    sym (all-stop l.position a.n (λ q. heads_of (row_of a.shape (kind_at q)) a.image.now (start_of a.shape q)) l.auto.position-end (omega (arith, c.loop-position-test.false)) l.invariant.1)

pub loop-position-init : goal.loop-position-init
loop-position-init c = (start_none c.args.shape, all_none _)
