-- `bytes::put_words` meets its contract.
use mathlib.Core.Path.{◌≡◌}
use Rattle.image.proofs.Words.{bytes-none, bytes-fours}
use native.Mathlib.Omega.{arith}
use Rattle.image.proofs.bytes.put_words.Goals as goal

pub loop-j-init : goal.loop-j-init
loop-j-init c = bytes-none c.args.at c.args.from c.args.registers.now

pub put_four-requires : goal.put_four-requires
put_four-requires c =
    let l = c.loop-j in
    (omega (arith, c.loop-j-test.true, c.requires.0), omega (arith, c.loop-j-test.true, c.requires.1, l.invariant.size))

pub loop-j-preserved : goal.loop-j-preserved
loop-j-preserved c =
    let a = c.args in
    let l = c.loop-j in
    bytes-fours a.at a.from l.j a.registers.now l.invariant c.put_four.ensures

pub returns : goal.returns
returns c =
    let e : c.loop-j.j ≡ c.args.n = omega (arith, c.loop-j.auto.j-end, c.loop-j-test.false) in
    rw e at c.loop-j.invariant

pub shape_of-buffer : goal.shape_of-buffer
shape_of-buffer c = c.loop-j.invariant.size
