-- `put_words` meets its contract: after k turns the bytes of the first k words stand in the buffer.
use Rattle.std.proofs.Common.{◌≡◌}
use Rattle.text.specs.Buffer.{wrote, writes}
use Rattle.little_endian.specs.Numbers.{bytes_of}
use Rattle.program.proofs.writing.put_words.Given as goal

abbrev pub invariant-loop-word : goal.invariant-loop-word
invariant-loop-word l = wrote l.at l.out ≡ writes l.initial.out 0 (bytes_of l.word-index l.words)
