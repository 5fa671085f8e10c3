-- `bytes::put_word` meets its contract.
use mathlib.Core.Path.{sym, ◌∙◌}
use native.Mathlib.Omega.{arith}
use Rattle.image.proofs.Words.{grown-put}
use Rattle.little_endian.specs.Numbers.{number_bytes}
use Rattle.little_endian.proofs.Numbers.{four_bytes, bytes-length}
use Rattle.image.proofs.bytes.put_word.Goals as goal

pub returns : goal.returns
returns c =
    let a = c.args in
    grown-put a.at (number_bytes 4 a.word) (c.copy_from_slice.ensures.after ∙ (c.to_le_bytes.ensures ∙ sym (four_bytes a.word))) (omega arith) (omega (arith, bytes-length 4 a.word)) (omega arith)
