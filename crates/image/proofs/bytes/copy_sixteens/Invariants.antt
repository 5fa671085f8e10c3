-- `bytes::copy_sixteens` meets its contract.
use Prim.Native.Nat.{◌+◌, ◌*◌}
use lib.ListN.{take, drop}
use Rattle.image_layout.specs.Join.{Grown}
use Rattle.image.proofs.bytes.copy_sixteens.Given as goal

abbrev pub invariant-loop-k : goal.invariant-loop-k
invariant-loop-k l = Grown l.initial.target l.target l.at (l.at + 16 * l.k) (take (16 * l.k) (drop l.from l.source))
