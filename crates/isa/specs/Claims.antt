-- What is proved of the definitions: that reading and writing belong together, what a word has room for, and which words are not fitted.
use Rattle.std.specs.Prelude.{◌≡◌, ℕ, ◌^◌, ◌<◌, Bool, true, ◌&&◌, ◌||◌, ◌↔◌, List, [], ◌∷◌, ◌==◌, nat_le}
use Rattle.answer.specs.Answer.{Answer, given, refused}
use Rattle.word_layout.specs.Layout.{bits}
use Rattle.isa.specs.Read.{read}
use Rattle.isa.specs.declared.instruction.BinaryOp.TheVariants.{Add, Fadd, Fsub, Fmul, Fdiv}
use Rattle.isa.specs.declared.instruction.CompareOp.TheVariants.{Fle}
use Rattle.isa.specs.declared.instruction.UnaryOp.TheVariants.{IntToFloat, FloatToInt}
use Rattle.isa.specs.Types.{MoveiOp, Low, High, Whole, Instruction, R, I, Movei, J, C, M, Binary, Unary, Compare}
use Rattle.isa.specs.Write.{write}

-- "Words read into instructions and instructions written into words follow the same tables, with no other word accepted."
-- A word reads as an instruction exactly if that instruction writes that word.
unfoldable pub Exact : Type 0
Exact = (w : ℕ) (i : Instruction) → w < 2 ^ 32 → (read w ≡ given i) ↔ (write i ≡ given w)

-- No two instructions share a word.
unfoldable pub Apart : Type 0
Apart = (w : ℕ) (i j : Instruction) → write i ≡ given w → write j ≡ given w → i ≡ j

-- the immediate of moveil and moveih is half a word; movei's is signed
abbrev pub HalfWord : MoveiOp → ℕ → Type 0
HalfWord Low n = n < 2 ^ 16
HalfWord High n = n < 2 ^ 16
HalfWord Whole n = Unit {0}

-- an instruction's registers are among the 64, and an immediate that is not signed is half a word
abbrev pub Ranged : Instruction → Type 0
Ranged (R op flags d a b) = (d < 64) × (a < 64) × (b < 64)
Ranged (I op flags d a immediate) = (d < 64) × (a < 64)
Ranged (Movei op flag d immediate) = (d < 64) × HalfWord op immediate
Ranged (J op register offset) = register < 64
Ranged (C op first second) = (first < 64) × (second < 64)
Ranged (M op register base offset) = (register < 64) × (base < 64)

-- That holds of every instruction that a word is read as.
unfoldable pub InRange : Type 0
InRange = (w : ℕ) (i : Instruction) → read w ≡ given i → Ranged i

-- Words that are not fitted (number 8), by their bits alone.

abbrev pub between : ℕ → ℕ → ℕ → Bool
between low high n = nat_le low n && nat_le n high

-- the opcodes that the lines of R name: 1-11, 12 and 13, 14-23, 24, 25, 32, 43, 44; and 02 (T-08): 33 to 36, 37 to 42, 48, 49
abbrev pub named_r : ℕ → Bool
named_r o = between 1 25 o || between 32 44 o || o == 48 || o == 49

-- "Not fitted: opcodes .. 45 .. with any other bits; any opcode above with l = 1, other bits any.", and of 33 to 42, 48 and 49 in 02 (T-08): "words
-- of these opcodes off the layout give 7, not 8; l = 1 still gives 8"
abbrev pub not_fitted_r : ℕ → ℕ → Bool
not_fitted_r opcode l = opcode == 45 || (named_r opcode && l == 1)

-- "0 load8, 1 load16 .., 2 load32, 4 load8u, 5 load16u, 8 loadv, 32 store8, 33 store16, 34 store32, 40 storev."
abbrev pub named_m : ℕ → Bool
named_m o = between 0 2 o || o == 4 || o == 5 || o == 8 || between 32 34 o || o == 40

-- "Bit 2 or 1 set with such an opcode, other bits any: not fitted."
abbrev pub not_fitted_m : ℕ → ℕ → ℕ → Bool
not_fitted_m opcode bit2 bit1 = named_m opcode && (bit2 == 1 || bit1 == 1)

-- R has bits 31-30 = 00, M has 10; both have the opcode in bits 29-24.
abbrev pub not_fitted : ℕ → Bool
not_fitted w =
    (bits w 31 30 == 0b00 && not_fitted_r (bits w 29 24) (bits w 4 4))
    || (bits w 31 30 == 0b10 && not_fitted_m (bits w 29 24) (bits w 2 2) (bits w 1 1))

-- Those words are not fitted, and no others.
unfoldable pub NotFittedExactly : Type 0
NotFittedExactly = (w : ℕ) → (read w ≡ refused 8) ↔ (not_fitted w ≡ true)

-- Words beside these lines, and what they are read as.
pub record Figure : Type 0 where
  pub word : ℕ
  pub answer : Answer Instruction

abbrev row : ℕ → Answer Instruction → Figure
row word answer = record { word = word; answer = answer }

abbrev pub rows : List Figure
rows =
    -- add and sext8 with l = 1; add also to s63, with bits 5 and 0 set
    row 0x04000010 (refused 8) ∷ row 0x2B000010 (refused 8) ∷ row 0x04FC0031 (refused 8) ∷
    -- opcodes 26, 0 and 46, which no line names, with l = 1
    row 0x1A000010 (refused 7) ∷ row 0x00000010 (refused 7) ∷ row 0x2E000010 (refused 7) ∷
    -- 02 (T-08): "the word 0x21000000 becomes fadd .. 0x2D000000 takes its place as not fitted", that with other bits too
    row 0x21000000 (given (R (Binary Fadd) 0b000 0 0 0)) ∷ row 0x2D000000 (refused 8) ∷ row 0x2D000001 (refused 8) ∷ row 0x2DFFFFFF (refused 8) ∷
    -- fsub, fmul, fdiv
    row 0x22000000 (given (R (Binary Fsub) 0b000 0 0 0)) ∷ row 0x23000000 (given (R (Binary Fmul) 0b000 0 0 0)) ∷
    row 0x24000000 (given (R (Binary Fdiv) 0b000 0 0 0)) ∷
    -- fadd with bit 0, and with l = 1; cmpfle of scalars
    row 0x21000001 (refused 7) ∷ row 0x21000010 (refused 8) ∷ row 0x2A000000 (given (R (Compare Fle) 0b000 0 0 0)) ∷
    -- i32tof32 of scalars and of lanes; with bit 0, with b field 1, with flags 100, which move alone has, with all flags, and with l = 1
    row 0x30000000 (given (R (Unary IntToFloat) 0b000 0 0 0)) ∷ row 0x3000000C (given (R (Unary IntToFloat) 0b110 0 0 0)) ∷
    row 0x30000001 (refused 7) ∷ row 0x30000040 (refused 7) ∷ row 0x30000008 (refused 7) ∷ row 0x3000000E (refused 7) ∷
    row 0x30000010 (refused 8) ∷
    -- f32toi32 likewise
    row 0x31000000 (given (R (Unary FloatToInt) 0b000 0 0 0)) ∷ row 0x3100000C (given (R (Unary FloatToInt) 0b110 0 0 0)) ∷
    row 0x31000001 (refused 7) ∷ row 0x31000040 (refused 7) ∷ row 0x31000008 (refused 7) ∷ row 0x3100000E (refused 7) ∷
    row 0x31000010 (refused 8) ∷
    -- addi with bit 4 set: part of its immediate
    row 0x44000010 (given (I (Binary Add) 0b00 0 0 2)) ∷
    -- moveil, moveih and movei with the highest bit of the immediate set, and movei with all of it
    row 0x60060000 (given (Movei Low 0 1 0x8000)) ∷ row 0x61060000 (given (Movei High 0 1 0x8000)) ∷
    row 0x62060000 (given (Movei Whole 0 1 0xFFFF8000)) ∷ row 0x6207FFFC (given (Movei Whole 0 1 0xFFFFFFFF)) ∷
    -- load32 with bit 2, bit 1, and with all of bits 2 to 0 into s63
    row 0x82000004 (refused 8) ∷ row 0x82000002 (refused 8) ∷ row 0x82FC0007 (refused 8) ∷
    -- bit 0 alone; and bit 2 with opcode 3, which M does not name
    row 0x82000001 (refused 7) ∷ row 0x83000004 (refused 7) ∷ []

abbrev pub All : List Figure → Type 0
All [] = Unit {0}
All (r ∷ rs) = (read r.word ≡ r.answer) × All rs

unfoldable pub RowsHold : Type 0
RowsHold = All rows
