-- `bytes::take_words` meets its contract.
use Prim.Native.Nat.{◌+◌, ◌*◌}
use lib.ListN.{drop}
use Rattle.image_layout.specs.Join.{Grown}
use Rattle.little_endian.specs.Numbers.{words_of}
use Rattle.image.proofs.bytes.take_words.Given as goal

abbrev pub invariant-loop-j : goal.invariant-loop-j
invariant-loop-j l = Grown l.initial.registers l.registers l.from (l.from + 4 * l.j) (words_of (4 * l.j) (drop l.at l.image))
