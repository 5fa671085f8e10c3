-- A program in bytes: number 1, and the words (document 01, "Numbers given back", and "Figures to check", Lister).
use Rattle.std.specs.Prelude.{ℕ, ◌/◌, ◌%◌, Bool, ◌||◌, not, cond, List, eqb, length, Result, Ok, Err}
use Rattle.answer.specs.Refusal.{bad_program}
use Rattle.answer.specs.declared.refusal.Refusal.{Refusal}
use Rattle.little_endian.specs.Numbers.{words_of, bytes_of}
use Rattle.text.specs.Buffer.{Wrote, wrote, writes}

-- number 1: "program has 0 or more than 16,384 words (lister: also input not whole words)", of so many bytes
abbrev pub bad_bytes : ℕ → Bool
bad_bytes bytes = not (eqb (bytes % 4) 0) || bad_program (bytes / 4)

-- "words little endian"
abbrev pub program_in : List ℕ → List ℕ
program_in input = words_of (length input / 4) input

-- what both calls answer, as the code says it: how many were put, none of what is no program
abbrev pub count_of : Result ℕ Refusal → ℕ
count_of (Ok count) = count
count_of (Err _) = 0

-- what the reader of a program's bytes leaves: the number of words, and them at the start of the buffer; none of a bad input
unfoldable pub loads : List ℕ → List ℕ → Wrote
loads input buffer = cond (bad_bytes (length input)) (wrote 0 buffer) (writes buffer 0 (program_in input))

-- what the writer of a program's bytes leaves: their number, and them at the start of the buffer; none of words that are no program
unfoldable pub saves : List ℕ → List ℕ → Wrote
saves words buffer = cond (bad_program (length words)) (wrote 0 buffer) (writes buffer 0 (bytes_of (length words) words))
