-- `bytes::word_at` meets its contract.
use native.Mathlib.Nat.{add-zero, add_assoc}
use native.Mathlib.Omega.{arith}
use Rattle.little_endian.specs.Numbers.{number_at}
use Rattle.image.proofs.bytes.word_at.Goals as goal

pub returns : goal.returns
unfolding number_at
returns c = simp (add-zero, add_assoc) (omega (arith, c.from_le_bytes.ensures))
