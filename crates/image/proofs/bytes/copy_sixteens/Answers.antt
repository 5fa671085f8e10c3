-- `bytes::copy_sixteens` meets its contract.
use Prim.Native.Nat.{◌+◌, ◌*◌, ◌-◌}
use mathlib.Core.Path.{◌≡◌, ap, ◌∙◌}
use lib.ListN.{length, take, drop, length-drop}
use lib.Seq.{length-take-le}
use native.Mathlib.Omega.{arith}
use Rattle.image_layout.proofs.Join.{grown-none, grown-same, grown-sixteens}
use Rattle.image.proofs.Words.{grown-put}
use Rattle.image.proofs.bytes.copy_sixteens.Goals as goal

pub loop-k-init : goal.loop-k-init
loop-k-init c = grown-same (c.args.at + 16 * 0) (omega arith) (grown-none c.args.target.now c.args.at)

pub loop-k-preserved : goal.loop-k-preserved
loop-k-preserved c =
    let a = c.args in
    let l = c.loop-k in
    let here = a.from + 16 * l.k in
    let there = a.at + 16 * l.k in
    let m = a.source.now in
    let long : length (take 16 (drop here m)) ≡ 16 = length-take-le 16 (drop here m) (rw (length-drop here m) (omega (arith, c.loop-k-test.true, c.requires.0))) in
    let e : here + 16 - here ≡ 16 = omega arith in
    let new = c.copy_from_slice-in-loop-k.ensures.after ∙ (c.copy_from_slice.ensures.after ∙ ap (λ n. take n (drop here m)) e) in
    grown-sixteens a.at a.from l.k m l.invariant (grown-put there (take 16 (drop here m)) new (omega (arith, c.loop-k-test.true, c.requires.1, l.invariant.size)) (omega (arith, long)) (omega arith))

pub returns : goal.returns
returns c =
    let e : c.loop-k.k ≡ c.args.n = omega (arith, c.loop-k.auto.k-end, c.loop-k-test.false) in
    rw e at c.loop-k.invariant
