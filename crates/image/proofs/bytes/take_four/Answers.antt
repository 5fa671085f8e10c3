-- `bytes::take_four` meets its contract.
use Rattle.image_layout.proofs.Join.{grown-new}
use Rattle.image.proofs.Words.{grown-four, four-taken}
use Rattle.image.proofs.bytes.take_four.Goals as goal

pub returns : goal.returns
returns c =
    let a = c.args in
    grown-new (four-taken a.at _ _ _ _ a.image.now c.word_at-w0.ensures c.word_at-w1.ensures c.word_at-w2.ensures c.word_at-w3.ensures)
    (grown-four a.registers.now a.from _ _ _ _ c.requires.1)
