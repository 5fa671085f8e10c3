-- Where an access goes (document 01, "The words", M).
use Rattle.std.specs.Prelude.{ℕ, ◌+◌, ◌-◌, ◌%◌, ◌^◌, Bool, cond, ◌&&◌, eqb, leb}
use Rattle.twos_complement.specs.Word.{negative}
use Rattle.answer.specs.Reason.{misaligned, outside-memory}
use Rattle.memory.specs.Attempt.{Attempt, done, fault}

-- "Address is base, read unsigned, plus offset and does not wrap." The offset is a signed number, held modulo 2^32.
-- The address is held with 2^32 added to it, since it may be negative.
abbrev pub biased : ℕ → ℕ → ℕ
biased base offset = base + cond (negative 32 offset) offset (2 ^ 32 + offset)

-- whether all of `size` bytes from an address on are in a memory of `length` bytes
abbrev pub inside : ℕ → ℕ → ℕ → Bool
inside size length address = leb (2 ^ 32) address && leb (address + size) (2 ^ 32 + length)

-- "Not a multiple of 2, 4 ..: reason 1. Then any byte outside memory: reason 2."
-- The place of an access of `size` bytes at an address that is to be a multiple of `alignment`; 2^32 is one of every alignment,
-- so that the address is one with 2^32 added exactly if it is one without.
unfoldable pub place : ℕ → ℕ → ℕ → ℕ → Attempt ℕ
place alignment size length address =
    cond (eqb (address % alignment) 0)
    (cond (inside size length address) (done (address - 2 ^ 32)) (fault outside-memory))
    (fault misaligned)
