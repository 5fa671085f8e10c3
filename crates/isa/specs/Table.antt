-- The tables of the instruction words (document 01, "The words"): for each format its operations, with their opcodes and names.
use Rattle.std.specs.Prelude.{ℕ, true, false, List, [], ◌∷◌, ◌++◌, ◌==◌}
use Rattle.std.proofs.Math.Option.{Option, none, some}
use Prim.Native.String.{String}
use Rattle.isa.specs.Text.{bytes}
use Rattle.isa.specs.declared.instruction.BinaryOp.TheVariants.{Or, And, Xor, Add, Sub, Mullo, Mulhi, Mulhu, Ashr, Shr, Shl, Fadd, Fsub, Fmul, Fdiv}
use Rattle.isa.specs.declared.instruction.UnaryOp.TheVariants.{Clz, Ctz, Move, Sext8, Sext16, IntToFloat, FloatToInt}
use Rattle.isa.specs.declared.instruction.CompareOp.TheVariants.{Eq, Ne, Gt, Ge, Lt, Le, Ugt, Uge, Ult, Ule, Feq, Fne, Fgt, Fge, Flt, Fle}
use Rattle.isa.specs.Types.{Operation, Binary, Unary, Compare, Shuffle, GetLane}
use Rattle.isa.specs.Types.{MoveiOp, Low, High, Whole, JumpOp, Jmp, Jmpsr, Jret, Beqz, Bnez, ControlOp, Barrier, Readcr, End, Load8, Load16, Load32, Load8u, Load16u, Store8, Store16, Store32, MemoryOp, Load, Store, LoadVector, StoreVector}
use Rattle.isa.specs.Types.{Instruction, R, I, Movei, J, C, M}

-- a row: the opcode of an operation, and its name
pub record OpcodeRow : Type 0 where
  pub opcode : ℕ
  pub name : List ℕ

abbrev pub row : ℕ → String → OpcodeRow
row o n = record { opcode = o; name = bytes n }

-- a format's table: the row of each operation, and all its operations
pub record Table (A : Type 0) : Type 0 where
  pub row_of : A → OpcodeRow
  pub operations : List A

-- Behind each row its meaning, in registers: `:=` gives the register on its left the value on its right, from what the registers held before. With
-- vector flags an operation of R, I or MOVEI is done in each lane that is on. The definitions of the meanings: alu, vector, compares, memory, execution.

-- "R", and 02 (T-08): "Fit R opcodes 33 to 36 (fadd, fsub, fmul, fdiv), compares 37 to 42 (cmpfeq, cmpfne, cmpfgt, cmpfge, cmpflt, cmpfle),
-- 48 i32tof32 and 49 f32toi32"; a compare of vectors is a bit a lane, in the scalar d
abbrev pub row_r : Operation → OpcodeRow
row_r (Binary Or) = row 1 "or"  -- d := a | b
row_r (Binary And) = row 2 "and"  -- d := a & b
row_r (Binary Xor) = row 3 "xor"  -- d := a ^ b
row_r (Binary Add) = row 4 "add"  -- d := a + b, modulo 2^32
row_r (Binary Sub) = row 5 "sub"  -- d := a - b, modulo 2^32
row_r (Binary Mullo) = row 6 "mullo"  -- d := a * b, its low 32 bits
row_r (Binary Mulhi) = row 7 "mulhi"  -- d := a * b, its high 32 bits, signed
row_r (Binary Mulhu) = row 8 "mulhu"  -- d := a * b, its high 32 bits, unsigned
row_r (Binary Ashr) = row 9 "ashr"  -- d := a >> (b mod 32), signed
row_r (Binary Shr) = row 10 "shr"  -- d := a >> (b mod 32), unsigned
row_r (Binary Shl) = row 11 "shl"  -- d := a << (b mod 32), modulo 2^32
row_r (Unary Clz) = row 12 "clz"  -- d := the leading zeros of a; 32 of zero
row_r (Unary Ctz) = row 13 "ctz"  -- d := the trailing zeros of a; 32 of zero
row_r (Compare Eq) = row 14 "cmpeq"  -- d := 1 if a = b, else 0
row_r (Compare Ne) = row 15 "cmpne"  -- d := 1 if a ≠ b, else 0
row_r (Compare Gt) = row 16 "cmpgt"  -- d := 1 if a > b, signed, else 0
row_r (Compare Ge) = row 17 "cmpge"  -- d := 1 if a ≥ b, signed, else 0
row_r (Compare Lt) = row 18 "cmplt"  -- d := 1 if a < b, signed, else 0
row_r (Compare Le) = row 19 "cmple"  -- d := 1 if a ≤ b, signed, else 0
row_r (Compare Ugt) = row 20 "cmpugt"  -- d := 1 if a > b, unsigned, else 0
row_r (Compare Uge) = row 21 "cmpuge"  -- d := 1 if a ≥ b, unsigned, else 0
row_r (Compare Ult) = row 22 "cmpult"  -- d := 1 if a < b, unsigned, else 0
row_r (Compare Ule) = row 23 "cmpule"  -- d := 1 if a ≤ b, unsigned, else 0
row_r Shuffle = row 24 "shuffle"  -- d[j] := a[b[j] mod 16], each lane j
row_r GetLane = row 25 "getlane"  -- d := a[b mod 16], a lane
row_r (Unary Move) = row 32 "move"  -- d := a
row_r (Binary Fadd) = row 33 "fadd"  -- d := a + b, floats
row_r (Binary Fsub) = row 34 "fsub"  -- d := a - b, floats
row_r (Binary Fmul) = row 35 "fmul"  -- d := a * b, floats
row_r (Binary Fdiv) = row 36 "fdiv"  -- d := a / b, floats
row_r (Compare Feq) = row 37 "cmpfeq"  -- d := 1 if a = b, floats, else 0
row_r (Compare Fne) = row 38 "cmpfne"  -- d := 1 if a ≠ b, floats, else 0
row_r (Compare Fgt) = row 39 "cmpfgt"  -- d := 1 if a > b, floats, else 0
row_r (Compare Fge) = row 40 "cmpfge"  -- d := 1 if a ≥ b, floats, else 0
row_r (Compare Flt) = row 41 "cmpflt"  -- d := 1 if a < b, floats, else 0
row_r (Compare Fle) = row 42 "cmpfle"  -- d := 1 if a ≤ b, floats, else 0
row_r (Unary Sext8) = row 43 "sext8"  -- d := the low 8 bits of a, signed
row_r (Unary Sext16) = row 44 "sext16"  -- d := the low 16 bits of a, signed
row_r (Unary IntToFloat) = row 48 "i32tof32"  -- d := the float nearest to a, signed
row_r (Unary FloatToInt) = row 49 "f32toi32"  -- d := the whole part of the float a, signed

abbrev pub table_r : Table Operation
table_r = record {
  row_of = row_r;
  operations =
      Binary Or ∷ Binary And ∷ Binary Xor ∷ Binary Add ∷ Binary Sub ∷ Binary Mullo ∷ Binary Mulhi ∷ Binary Mulhu ∷ Binary Ashr ∷ Binary Shr ∷ Binary Shl ∷
      Unary Clz ∷ Unary Ctz ∷
      Compare Eq ∷ Compare Ne ∷ Compare Gt ∷ Compare Ge ∷ Compare Lt ∷ Compare Le ∷ Compare Ugt ∷ Compare Uge ∷ Compare Ult ∷ Compare Ule ∷
      Shuffle ∷ GetLane ∷ Unary Move ∷
      Binary Fadd ∷ Binary Fsub ∷ Binary Fmul ∷ Binary Fdiv ∷
      Compare Feq ∷ Compare Fne ∷ Compare Fgt ∷ Compare Fge ∷ Compare Flt ∷ Compare Fle ∷
      Unary Sext8 ∷ Unary Sext16 ∷ Unary IntToFloat ∷ Unary FloatToInt ∷ [];
}

-- "Not fitted: opcodes .. 45 .. with any other bits": the others of that line are fitted since 02 (T-08)
abbrev pub not-fitted-opcodes : List ℕ
not-fitted-opcodes = 45 ∷ []

-- "I: .. Opcodes 1-11 .., 14-23 .., 25 .., as R with the immediate as b. Names end in i." Its opcodes are those of R; which of them have an I word, their
-- flags say.
abbrev pub row_i : Operation → OpcodeRow
row_i op = record { opcode = (row_r op).opcode; name = (row_r op).name ++ bytes "i" }

-- "MOVEI: .. 0 moveil replaces the low half, 1 moveih the high half, 2 movei sets the value", and of movei 02 (T-02): "extends the sign into
-- the high half"
abbrev pub row_movei : MoveiOp → OpcodeRow
row_movei Low = row 0 "moveil"  -- the low half of d := immediate
row_movei High = row 1 "moveih"  -- the high half of d := immediate
row_movei Whole = row 2 "movei"  -- d := immediate, signed

abbrev pub table_movei : Table MoveiOp
table_movei = record { row_of = row_movei; operations = Low ∷ High ∷ Whole ∷ [] }

-- "J: .. 0 jmp, 1 jmpsr .., 2 jret .., 5 beqz, 6 bnez."
abbrev pub row_j : JumpOp → OpcodeRow
row_j Jmp = row 0 "jmp"  -- s63 := s63 + offset
row_j Jmpsr = row 1 "jmpsr"  -- s62 := s63 + 4; s63 := s63 + offset
row_j Jret = row 2 "jret"  -- s63 := s62
row_j Beqz = row 5 "beqz"  -- s63 := s63 + offset, if register = 0
row_j Bnez = row 6 "bnez"  -- s63 := s63 + offset, if register ≠ 0

abbrev pub table_j : Table JumpOp
table_j = record { row_of = row_j; operations = Jmp ∷ Jmpsr ∷ Jret ∷ Beqz ∷ Bnez ∷ [] }

-- "C: .. 0 barrier .. 1 readcr .. 2 end"
abbrev pub row_c : ControlOp → OpcodeRow
row_c Barrier = row 0 "barrier"  -- wait at barrier first for second + 1 threads
row_c Readcr = row 1 "readcr"  -- first := the control register with the number second
row_c End = row 2 "end"  -- the thread ends

abbrev pub table_c : Table ControlOp
table_c = record { row_of = row_c; operations = Barrier ∷ Readcr ∷ End ∷ [] }

-- "M: .. 0 load8, 1 load16 (sign kept), 2 load32, 4 load8u, 5 load16u, 8 loadv, 32 store8, 33 store16, 34 store32, 40 storev."
abbrev pub row_m : MemoryOp → OpcodeRow
row_m (Load Load8) = row 0 "load8"  -- register := 1 byte at base + offset, signed
row_m (Load Load16) = row 1 "load16"  -- register := 2 bytes at base + offset, signed
row_m (Load Load32) = row 2 "load32"  -- register := 4 bytes at base + offset
row_m (Load Load8u) = row 4 "load8u"  -- register := 1 byte at base + offset, unsigned
row_m (Load Load16u) = row 5 "load16u"  -- register := 2 bytes at base + offset, unsigned
row_m LoadVector = row 8 "loadv"  -- register[j] := 4 bytes at base + offset + 4j, each lane j
row_m (Store Store8) = row 32 "store8"  -- 1 byte at base + offset := register, its low 8 bits
row_m (Store Store16) = row 33 "store16"  -- 2 bytes at base + offset := register, its low 16 bits
row_m (Store Store32) = row 34 "store32"  -- 4 bytes at base + offset := register
row_m StoreVector = row 40 "storev"  -- 4 bytes at base + offset + 4j := register[j], each lane j

abbrev pub table_m : Table MemoryOp
table_m = record {
  row_of = row_m;
  operations =
      Load Load8 ∷ Load Load16 ∷ Load Load32 ∷ Load Load8u ∷ Load Load16u ∷ LoadVector ∷
      Store Store8 ∷ Store Store16 ∷ Store Store32 ∷ StoreVector ∷ [];
}

-- the operation of an opcode among those listed, if one of them has it
unfoldable pub find : {A : Type 0} → (A → OpcodeRow) → List A → ℕ → Option A
find row_of [] o = none
find row_of (op ∷ ops) o = elim (o == (row_of op).opcode) [ true ↦ some op | false ↦ find row_of ops o ]

-- the operation of an opcode in a table
abbrev pub operation_at : {A : Type 0} → Table A → ℕ → Option A
operation_at t o = find t.row_of t.operations o

-- the opcode of an instruction in its format's table
abbrev pub opcode_of : Instruction → ℕ
opcode_of (R op flags d a b) = (row_r op).opcode
opcode_of (I op flags d a immediate) = (row_i op).opcode
opcode_of (Movei op flag d immediate) = (row_movei op).opcode
opcode_of (J op register offset) = (row_j op).opcode
opcode_of (C op first second) = (row_c op).opcode
opcode_of (M op register base offset) = (row_m op).opcode
