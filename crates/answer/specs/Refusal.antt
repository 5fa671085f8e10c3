-- When the table gives a number (document 01, "Numbers given back").
use Rattle.std.specs.Prelude.{ℕ, Result, Ok, Err, ◌+◌, ◌*◌, ◌/◌, ◌%◌, Bool, ◌||◌, not, cond, List, [], ◌∷◌, ltb, eqb}
use Rattle.std.proofs.Math.Option.{Option, none, some}
use Rattle.answer.specs.Answer.{bad-program, bad-registers, bad-memory, bad-record, bad-mask, no_word, undefined, not-fitted, bad-length, bad-image, counts-lost, bad-source, bad-label, too_large, bad-hex-record, bad-hex-order, bad-hex-end, short-buffer, bad-minute, small-memory}
use Rattle.answer.specs.declared.refusal.Refusal.{Refusal}
use Rattle.answer.specs.declared.refusal.Refusal.TheVariants as V

-- "Program: 1 to 16,384 words", "Register room: 8,704 lent words."
abbrev pub program_words : ℕ
program_words = 16384

abbrev pub register_words : ℕ
register_words = 8704

-- "Data memory: lent bytes, a multiple of 64, from 64 to 65,536.": blocks of so many bytes, and so many bytes at the most
abbrev pub block_bytes : ℕ
block_bytes = 64

abbrev pub memory_bytes : ℕ
memory_bytes = 65536

-- "program has 0 or more than 16,384 words"
abbrev pub bad_program : ℕ → Bool
bad_program words = eqb words 0 || ltb program_words words

-- "register file is not 8,704 words"
abbrev pub bad_registers : ℕ → Bool
bad_registers words = not (eqb words register_words)

-- "memory length is not allowed": "a multiple of 64, from 64 to 65,536"
abbrev pub bad_memory : ℕ → Bool
bad_memory bytes = ltb bytes block_bytes || ltb memory_bytes bytes || not (eqb (bytes % block_bytes) 0)

-- "start mask is 0 or above 255"
abbrev pub bad_mask : ℕ → Bool
bad_mask mask = eqb mask 0 || ltb 255 mask

-- "36,948 + 68 x (memory length / 64)": a fixed part, and a record for each block of memory; 02, T-05: "the fixed part is 36,980 bytes",
-- and that of the old form stays
abbrev pub fixed_part : ℕ
fixed_part = 36980

abbrev pub old_fixed_part : ℕ
old_fixed_part = 36948

abbrev pub block_record : ℕ
block_record = 68

-- the length of an image with such a fixed part, of a memory of so many bytes
abbrev pub image_length : ℕ → ℕ → ℕ
image_length fixed bytes = fixed + block_record * (bytes / block_bytes)

-- "image length differs from 36,948 + 68 x (memory length / 64)", by the fixed part of its form
abbrev pub bad_length : ℕ → ℕ → ℕ → Bool
bad_length fixed bytes size = not (eqb size (image_length fixed bytes))

-- a number of the table, and whether it applies
pub record Check : Type 0 where
  pub number : ℕ
  pub applies : Bool

abbrev pub check : ℕ → Bool → Check
check number applies = record { number = number; applies = applies }

-- "A call checks in the order 1, 2, 3, 5, 9, 10, 4, as far as it takes these things, and the first that applies is given."
unfoldable pub first_that_applies : List Check → Option ℕ
first_that_applies [] = none
first_that_applies (c ∷ cs) = cond c.applies (some c.number) (first_that_applies cs)

-- what a run takes of lengths: a program and a register file of so many words, a memory of so many bytes
abbrev pub length_checks : ℕ → ℕ → ℕ → List Check
length_checks words registers bytes =
    check bad-program (bad_program words)
    ∷ check bad-registers (bad_registers registers)
    ∷ check bad-memory (bad_memory bytes)
    ∷ []

unfoldable pub lengths_number : ℕ → ℕ → ℕ → Option ℕ
lengths_number words registers bytes = first_that_applies (length_checks words registers bytes)

-- what both calls of an image take: the fixed part of its length, a register file of so many words, a memory and an image of so many bytes
abbrev pub size_checks : ℕ → ℕ → ℕ → ℕ → List Check
size_checks fixed registers bytes size =
    check bad-registers (bad_registers registers)
    ∷ check bad-memory (bad_memory bytes)
    ∷ check bad-length (bad_length fixed bytes size)
    ∷ []

unfoldable pub sizes_number : ℕ → ℕ → ℕ → ℕ → Option ℕ
sizes_number fixed registers bytes size = first_that_applies (size_checks fixed registers bytes size)

-- the table's number of a refusal, as the code names it
abbrev pub row_of : Refusal → ℕ
row_of V.Program = bad-program
row_of V.Registers = bad-registers
row_of V.Memory = bad-memory
row_of V.Record = bad-record
row_of V.Mask = bad-mask
row_of V.NoWord = no_word
row_of V.Undefined = undefined
row_of V.NotFitted = not-fitted
row_of V.Length = bad-length
row_of V.Image = bad-image
row_of V.CountsLost = counts-lost
row_of V.Source = bad-source
row_of V.Label = bad-label
row_of V.TooLarge = too_large
row_of V.HexRecord = bad-hex-record
row_of V.HexOrder = bad-hex-order
row_of V.HexEnd = bad-hex-end
row_of V.ShortBuffer = short-buffer
row_of V.Minute = bad-minute
row_of V.SmallMemory = small-memory

-- the number of a refused call, by what numbers its refusals
abbrev pub numbered : {E : Type 0} → (E → ℕ) → Result Unit E → Option ℕ
numbered number (Ok _) = none
numbered number (Err refusal) = some (number refusal)

-- the number of a refused call in the table
abbrev pub number_of : Result Unit Refusal → Option ℕ
number_of (Ok _) = none
number_of (Err refusal) = some (row_of refusal)

-- what a call gives: one thing if it is refused, by its number, and another if it is not
abbrev pub refused_or : {A : Type 0} → Option ℕ → (ℕ → A) → A → A
refused_or none r a = a
refused_or (some number) r a = r number
