-- `bytes::write8` meets its contract.
use mathlib.Core.Path.{refl}
use lib.ListN.{length-set}
use Rattle.little_endian.specs.Numbers.{with_number}
use Rattle.memory.proofs.bytes.write8.Goals as goal

pub returns : goal.returns
unfolding with_number
returns c = refl

pub shape_of-memory : goal.shape_of-memory
shape_of-memory c = simp length-set
