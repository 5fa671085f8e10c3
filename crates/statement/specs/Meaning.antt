-- The instruction of a line, and its word.
use Rattle.std.specs.Prelude.{ℕ, ◌+◌, ◌-◌, ◌*◌, ◌%◌, ◌^◌, Bool, true, false, ◌&&◌, not, Some, None}
use Rattle.std.specs.Prelude as code
use Rattle.std.proofs.Math.Option.{Option, none, some}
use Rattle.answer.specs.Answer.{Answer, given, refused}
use Rattle.isa.specs.Rule.{allows_j}
use Rattle.isa.specs.Write.{write}
use Rattle.statement.specs.Types.{Instruction, R, I, Movei, J, C, M, MemoryOp, Load, Store, LoadVector, StoreVector}
use Rattle.statement.specs.Types.{Register}
use Rattle.statement.specs.Field.{nth}
use Rattle.statement.specs.Operand.{Operands}

-- a vector flag
abbrev pub bit : Bool → ℕ
bit false = 0
bit true = 1

-- A vector load or store has a vector register.
abbrev pub is_vector_m : MemoryOp → Bool
is_vector_m (Load op) = false
is_vector_m (Store op) = false
is_vector_m LoadVector = true
is_vector_m StoreVector = true

abbrev pub same_letter : Bool → Bool → Bool
same_letter true v = v
same_letter false v = not v

-- an instruction, if its format takes its registers' letters: R, I and MOVEI have flags for them, the others don't
abbrev pub lettered : Bool → Instruction → Option Instruction
lettered false i = none
lettered true i = some i

-- "In jumps and branches it is the target address": the offset from a word's own address, modulo 2^32; 0 where the jump has none
abbrev pub offset_from : Bool → ℕ → ℕ → ℕ
offset_from true n at = (n + 2 ^ 32 - at) % 2 ^ 32
offset_from false n at = 0

-- The meaning of a line: the instruction of its name, with these registers and this number (modulo 2^32, as the writer takes it), at an
-- address. An operand left out is 0. None where a register has a wrong letter.
unfoldable pub meaning_with : Instruction → Register → Register → Register → ℕ → ℕ → Option Instruction
meaning_with (R op flags d a b) x y z n at = lettered true
    (R op (4 * bit x.vector + 2 * bit y.vector + bit z.vector) x.number y.number z.number)
meaning_with (I op flags d a i) x y z n at = lettered true (I op (2 * bit x.vector + bit y.vector) x.number y.number n)
meaning_with (Movei op flag d i) x y z n at = lettered true (Movei op (bit x.vector) x.number n)
meaning_with (J op r offset) x y z n at = lettered (not x.vector) (J op x.number (offset_from (allows_j op 0 1) n at))
meaning_with (C op first second) x y z n at = lettered (not x.vector && not y.vector) (C op x.number y.number)
meaning_with (M op r base offset) x y z n at = lettered (same_letter (is_vector_m op) x.vector && not y.vector)
    (M op x.number y.number n)

-- "Its words are the instruction writer's for each line's meaning, which is defined without the assembler."
abbrev pub word_by : Answer ℕ → Option ℕ
word_by (given w) = some w
word_by (refused n) = none

abbrev pub word_for : Option Instruction → Option ℕ
word_for none = none
word_for (some i) = word_by (write i)

abbrev pub word_with : Instruction → Register → Register → Register → ℕ → ℕ → Option ℕ
word_with i x y z n at = word_for (meaning_with i x y z n at)

-- of an instruction with its operands, where their expression has a value
abbrev pub meaning_of : Instruction → Operands → ℕ → ℕ → Option Instruction
meaning_of i os v at = meaning_with i (nth 0 os.registers) (nth 1 os.registers) (nth 2 os.registers) (v % 2 ^ 32) at

abbrev pub word_of : Instruction → Operands → ℕ → ℕ → Option ℕ
word_of i os v at = word_for (meaning_of i os v at)

-- the code's answer
abbrev pub word_in : code.Option ℕ → Option ℕ
word_in (Some w) = some w
word_in None = none
