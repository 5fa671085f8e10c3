-- `take_words` meets its contract: after k turns the first k words stand in the part of the buffer.
use Rattle.std.proofs.Common.{◌≡◌}
use Rattle.text.specs.Buffer.{wrote, writes}
use Rattle.little_endian.specs.Numbers.{words_of}
use Rattle.program.proofs.reading.take_words.Given as goal

abbrev pub invariant-loop-k : goal.invariant-loop-k
invariant-loop-k l = wrote l.k l.word-items ≡ writes l.initial.word-items 0 (words_of l.k l.input)
