-- `bytes::put_words` meets its contract.
use Prim.Native.Nat.{◌+◌, ◌*◌}
use lib.ListN.{drop}
use Rattle.image_layout.specs.Join.{Grown}
use Rattle.little_endian.specs.Numbers.{bytes_of}
use Rattle.image.proofs.bytes.put_words.Given as goal

abbrev pub invariant-loop-j : goal.invariant-loop-j
invariant-loop-j l = Grown l.initial.buffer l.buffer l.at (l.at + 16 * l.j) (bytes_of (4 * l.j) (drop l.from l.registers))
