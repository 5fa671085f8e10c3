-- `bytes::put_four` meets its contract.
use Rattle.image.proofs.Words.{four-put}
use Rattle.image.proofs.bytes.put_four.Goals as goal

pub returns : goal.returns
returns c =
    let a = c.args in
    four-put a.at a.from a.registers.now
    c.put_word.ensures
    c.put_word-2.ensures
    c.put_word-3.ensures
    c.put_word-4.ensures
