-- The bytes of memory that a call writes and reads (document 02, T-14; document 01, "Little endian."). They are said here since this
-- crate stands on the interpreter and on nothing beside it.
use Rattle.std.specs.Prelude.{ℕ, ◌+◌, ◌*◌, ◌/◌, ◌%◌, List, [], ◌∷◌, ◌++◌, get_or, drop}

-- the bytes of a word
abbrev pub word_bytes : ℕ → List ℕ
word_bytes w = w % 256 ∷ w / 256 % 256 ∷ w / 65536 % 256 ∷ w / 16777216 % 256 ∷ []

-- the word at a place
abbrev pub word_at : List ℕ → ℕ → ℕ
word_at memory at = get_or memory at 0 + 256 * get_or memory (at + 1) 0 + 65536 * get_or memory (at + 2) 0 + 16777216 * get_or memory (at + 3) 0

-- "it puts the minute of the day in memory bytes 0 to 3 and the minutes skipped since the last call in bytes 4 to 7"
unfoldable pub with_reading : List ℕ → ℕ → ℕ → List ℕ
with_reading memory minute skipped = word_bytes minute ++ word_bytes skipped ++ drop 8 memory

-- "the low 16 bits of the word at byte 64"
unfoldable pub relays_in : List ℕ → ℕ
relays_in memory = word_at memory 64 % 65536
