-- `bytes::take_words` meets its contract.
use mathlib.Core.Path.{◌≡◌}
use Rattle.image.proofs.Words.{words-none, words-fours}
use native.Mathlib.Omega.{arith}
use Rattle.image.proofs.bytes.take_words.Goals as goal

pub take_four-requires : goal.take_four-requires
take_four-requires c =
    let l = c.loop-j in
    (omega (arith, c.loop-j-test.true, c.requires.0), omega (arith, c.loop-j-test.true, c.requires.1, l.invariant.size))

pub loop-j-preserved : goal.loop-j-preserved
loop-j-preserved c =
    let a = c.args in
    let l = c.loop-j in
    words-fours a.from a.at l.j a.image.now l.invariant c.take_four.ensures

pub returns : goal.returns
returns c =
    let e : c.loop-j.j ≡ c.args.n = omega (arith, c.loop-j.auto.j-end, c.loop-j-test.false) in
    rw e at c.loop-j.invariant

pub loop-j-init : goal.loop-j-init
loop-j-init c = words-none _ _

pub shape_of-registers : goal.shape_of-registers
shape_of-registers c = c.loop-j.invariant.size
