-- Which vector flags and registers the words of an operation may have (document 01, "The words").
use Rattle.std.specs.Prelude.{ℕ, ◌^◌, Bool, true, false, cond, not, ◌&&◌, ◌||◌, List, [], ◌∷◌, ◌==◌, nat_le, nat_lt}
use Rattle.isa.specs.Table.{row_r}
use Rattle.isa.specs.Test.{is_in}
use Rattle.isa.specs.declared.instruction.UnaryOp.TheVariants.{Clz, Ctz, Move, Sext8, Sext16, IntToFloat, FloatToInt}
use Rattle.isa.specs.Types.{UnaryOp, Operation, Binary, Unary, Compare, Shuffle, GetLane, JumpOp, Jmp, Jmpsr, Jret, Beqz, Bnez, ControlOp, Barrier, Readcr, End, MemoryOp, Load, Store, LoadVector, StoreVector}

-- "Flags 000, 110; move also 100." Of the float unit: "b field and flags as for integer add, compare and clz".
abbrev pub flags_unary : UnaryOp → List ℕ
flags_unary Clz = 0b000 ∷ 0b110 ∷ []
flags_unary Ctz = 0b000 ∷ 0b110 ∷ []
flags_unary Move = 0b000 ∷ 0b110 ∷ 0b100 ∷ []
flags_unary Sext8 = 0b000 ∷ 0b110 ∷ []
flags_unary Sext16 = 0b000 ∷ 0b110 ∷ []
flags_unary IntToFloat = 0b000 ∷ 0b110 ∷ []
flags_unary FloatToInt = 0b000 ∷ 0b110 ∷ []

-- R: the vector flags of d, a and b
abbrev pub flags_r : Operation → List ℕ
flags_r (Binary op) = 0b000 ∷ 0b111 ∷ 0b110 ∷ 0b101 ∷ []
flags_r (Unary op) = flags_unary op
flags_r (Compare op) = 0b000 ∷ 0b011 ∷ 0b010 ∷ 0b001 ∷ []
flags_r Shuffle = 0b111 ∷ []
flags_r GetLane = 0b010 ∷ []

-- I: the vector flags of d and a. "Opcodes 1-11 (flags 00, 11), 14-23 (00, 01), 25 (01)"
abbrev pub flags_class : Operation → List ℕ
flags_class (Binary op) = 0b00 ∷ 0b11 ∷ []
flags_class (Unary op) = []
flags_class (Compare op) = 0b00 ∷ 0b01 ∷ []
flags_class Shuffle = []
flags_class GetLane = 0b01 ∷ []

-- I has five bits for the opcode: the float operations, from 33 on, have no I form
abbrev pub flags_i : Operation → List ℕ
flags_i op = cond (nat_lt (row_r op).opcode (2 ^ 5)) (flags_class op) []

-- an operation that I has too: one with flags there
abbrev pub any_flags : List ℕ → Bool
any_flags [] = false
any_flags (f ∷ fs) = true

abbrev pub has_immediate : Operation → Bool
has_immediate op = any_flags (flags_i op)

-- "s63 the program counter": named here too, since this crate does not see `machine`, where the register file is
abbrev pub program_counter_register : ℕ
program_counter_register = 63

-- "A scalar destination may not be 63."
abbrev pub destination : Bool → ℕ → Bool
destination vector d = vector || not (d == program_counter_register)

-- "12 clz, 13 ctz .., 32 move, 43 sext8, 44 sext16: b field 0.", and so 48 and 49, "as for .. clz"
abbrev pub operand_b : Operation → ℕ → Bool
operand_b (Binary op) b = true
operand_b (Unary op) b = b == 0
operand_b (Compare op) b = true
operand_b Shuffle b = true
operand_b GetLane b = true

abbrev pub allows_r : Operation → ℕ → ℕ → ℕ → Bool
allows_r op flags d b = is_in flags (flags_r op) && destination (nat_le 0b100 flags) d && operand_b op b

abbrev pub allows_i : Operation → ℕ → ℕ → Bool
allows_i op flags d = is_in flags (flags_i op) && destination (nat_le 0b10 flags) d

abbrev pub allows_movei : ℕ → ℕ → Bool
allows_movei flag d = destination (flag == 1) d

-- "0 jmp, 1 jmpsr (..; both with register 0), 2 jret (.. register and offset 0), 5 beqz, 6 bnez"
abbrev pub allows_j : JumpOp → ℕ → ℕ → Bool
allows_j Jmp register offset = register == 0
allows_j Jmpsr register offset = register == 0
allows_j Jret register offset = register == 0 && offset == 0
allows_j Beqz register offset = true
allows_j Bnez register offset = true

-- readcr writes its first register; "2 end: both registers 0"
abbrev pub allows_c : ControlOp → ℕ → ℕ → Bool
allows_c Barrier first second = true
allows_c Readcr first second = destination false first
allows_c End first second = first == 0 && second == 0

-- a scalar load writes its register
abbrev pub allows_m : MemoryOp → ℕ → Bool
allows_m (Load op) register = destination false register
allows_m (Store op) register = true
allows_m LoadVector register = true
allows_m StoreVector register = true
