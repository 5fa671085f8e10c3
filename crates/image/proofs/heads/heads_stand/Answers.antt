-- `heads::heads_stand` meets its contract.
use Prim.Native.Nat.{◌+◌}
use mathlib.Core.Path.{sym, ap, ◌∙◌}
use Rattle.image_layout.specs.Layout.{head_of, record_size, record_at, heads_of, stands_at}
use Rattle.image_layout.proofs.Rows.{record-next, record-room}
use Rattle.image_layout.proofs.Tests.{all_none, all_more, all-less, all-stop}
use native.Mathlib.Omega.{arith}
use Rattle.image.proofs.heads.heads_stand.Goals as goal

pub opens_so-requires : goal.opens_so-requires
opens_so-requires c =
    let a = c.args in
    let l = c.loop-i in
    (c.requires.0 l.i c.loop-i-test.true, omega (arith, l.invariant.0, record-room a.row a.at l.i _ c.loop-i-test.true c.requires.1))

pub returns-then-not-opens_so : goal.returns-then-not-opens_so
unfolding heads_of
returns-then-not-opens_so c =
    let a = c.args in
    let l = c.loop-i in
    let e = c.opens_so.ensures in
    let f = sym e ∙ c.if-not-opens_so.true in
    sym (all-less a.row.count l.i (λ k. stands_at (head_of a.row k) a.image.now (record_at a.row a.at k)) c.loop-i-test.true (rw (← l.invariant.0) f))

pub overflow_add-p : goal.overflow_add-p
overflow_add-p c = omega (arith, c.loop-i.invariant.0, c.record_size-size.ensures, record-room c.args.row c.args.at c.loop-i.i _ c.loop-i-test.true c.requires.1)

pub loop-i-preserved : goal.loop-i-preserved
loop-i-preserved c =
    let a = c.args in
    let l = c.loop-i in
    let e = c.opens_so.ensures in
    let f = sym e ∙ c.if-not-opens_so.false in (
      ap (λ n. l.p + n) c.record_size-size.ensures ∙ (ap (λ n. n + record_size a.row) l.invariant.0 ∙ record-next a.row a.at l.i),
      all_more l.i (λ k. stands_at (head_of a.row k) a.image.now (record_at a.row a.at k)) l.invariant.1 (rw (← l.invariant.0) f),
    )

pub returns : goal.returns
unfolding heads_of
returns c =
    let a = c.args in
    let l = c.loop-i in
    sym (all-stop l.i a.row.count (λ k. stands_at (head_of a.row k) a.image.now (record_at a.row a.at k)) l.auto.i-end (omega (arith, c.loop-i-test.false)) l.invariant.1)

pub loop-i-init : goal.loop-i-init
loop-i-init c = (omega arith, all_none _)
