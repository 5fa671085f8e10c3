-- `bytes::write32` meets its contract: two bytes, and the next two.
use native.Mathlib.Nat.{add_assoc, div-div-eq-div-mul}
use Rattle.little_endian.specs.Numbers.{with_number}
use Rattle.memory.proofs.bytes.write32.Goals as goal

pub returns : goal.returns
unfolding with_number
returns c = rw (c.write16-2.ensures, c.write16.ensures) (simp (add_assoc, div-div-eq-div-mul))
