-- What is proved of the definitions: rows of the table "Numbers given back", each computed.
use Rattle.std.specs.Prelude.{ℕ, true, false, List, [], ◌∷◌, ◌≡◌}
use Rattle.std.proofs.Math.Option.{Option, none, some}
use Rattle.answer.specs.Refusal.{bad_program, bad_mask, fixed_part, old_fixed_part, check, first_that_applies, sizes_number}

-- "A call checks in the order 1, 2, 3, 5, 9, 10, 4, .. and the first that applies is given."
unfoldable pub FirstIsGiven : Type 0
FirstIsGiven = first_that_applies (check 1 false ∷ check 2 true ∷ check 3 true ∷ []) ≡ some 2

-- the fixed part of an image, the lengths of a register file, a memory and an image, and the number given
pub record Figure : Type 0 where
  pub fixed : ℕ
  pub registers : ℕ
  pub bytes : ℕ
  pub size : ℕ
  pub number : Option ℕ

abbrev row : ℕ → ℕ → ℕ → ℕ → Option ℕ → Figure
row fixed registers bytes size number = record { fixed = fixed; registers = registers; bytes = bytes; size = size; number = number }

-- of the newest form, and of the old one
abbrev newest : ℕ → ℕ → ℕ → Option ℕ → Figure
newest = row fixed_part

abbrev old : ℕ → ℕ → ℕ → Option ℕ → Figure
old = row old_fixed_part

abbrev pub rows : List Figure
rows =
    -- 2 before 3 before 9
    newest 0 0 0 (some 2) ∷ newest 8704 0 0 (some 3) ∷ newest 8704 64 0 (some 9) ∷ newest 8704 64 37048 none ∷
    -- "register file is not 8,704 words"
    newest 8703 64 37048 (some 2) ∷ newest 8705 64 37048 (some 2) ∷
    -- "a multiple of 64, from 64 to 65,536"
    newest 8704 32 37048 (some 3) ∷ newest 8704 96 37048 (some 3) ∷ newest 8704 65600 106680 (some 3) ∷ newest 8704 65536 106612 none ∷
    -- "the fixed part is 36,980 bytes" (02, T-05)
    newest 8704 128 37048 (some 9) ∷ newest 8704 128 37116 none ∷ newest 8704 128 37084 (some 9) ∷
    -- "36,948 + 68 x (memory length / 64)"
    old 8704 128 37016 (some 9) ∷ old 8704 128 37084 none ∷ old 8704 128 37116 (some 9) ∷ []

abbrev pub All : List Figure → Type 0
All [] = Unit {0}
All (r ∷ rs) = (sizes_number r.fixed r.registers r.bytes r.size ≡ r.number) × All rs

unfoldable pub RowsHold : Type 0
RowsHold = All rows

-- "program has 0 or more than 16,384 words", "start mask is 0 or above 255": on both sides of each bound
pub record Bounds : Type 0 where
  pub no_word : bad_program 0 ≡ true
  pub one_word : bad_program 1 ≡ false
  pub most-words : bad_program 16384 ≡ false
  pub more-words : bad_program 16385 ≡ true
  pub no-thread : bad_mask 0 ≡ true
  pub one-thread : bad_mask 1 ≡ false
  pub all-threads : bad_mask 255 ≡ false
  pub more-threads : bad_mask 256 ≡ true
