-- The operations on two words (document 01, "The words", R).
use Rattle.std.specs.Prelude.{ℕ, ◌+◌, ◌-◌, ◌*◌, ◌/◌, ◌%◌, ◌^◌, Bool, cond, bit_and, bit_or, bit_xor, nat_le}
use Rattle.isa.specs.Table.{row_r}
use Rattle.isa.specs.declared.instruction.Operation.TheVariants.{Binary}
use Rattle.isa.specs.declared.instruction.BinaryOp.{BinaryOp}
use Rattle.isa.specs.declared.instruction.BinaryOp.TheVariants.{Or, And, Xor, Add, Sub, Mullo, Mulhi, Mulhu, Ashr, Shr, Shl, Fadd, Fsub, Fmul, Fdiv}
use Rattle.word_layout.specs.Layout.{extended}
use Rattle.float.specs.Floats.{fadd_of, fsub_of, fmul_of, fdiv_of}

-- "Shifts use the low five bits of b."
abbrev pub distance : ℕ → ℕ
distance y = y % 2 ^ 5

-- "1 or, 2 and, 3 xor, 4 add, 5 sub, 6 mullo, 7 mulhi (signed), 8 mulhu, 9 ashr, 10 shr, 11 shl."
-- "Sums and differences wrap at 32 bits; mullo is the low half of the product."
-- 02 (T-08): "33 to 36 (fadd, fsub, fmul, fdiv)", on floats: their rules are float's.
-- The signed operations work on their operands extended to 64 bits.
abbrev pub binary : BinaryOp → ℕ → ℕ → ℕ
binary Or x y = bit_or x y
binary And x y = bit_and x y
binary Xor x y = bit_xor x y
binary Add x y = (x + y) % 2 ^ 32
binary Sub x y = (x + (2 ^ 32 - y)) % 2 ^ 32
binary Mullo x y = x * y % 2 ^ 32
binary Mulhi x y = extended 64 (2 ^ 31) x * extended 64 (2 ^ 31) y % 2 ^ 64 / 2 ^ 32
binary Mulhu x y = x * y / 2 ^ 32
binary Ashr x y = extended 64 (2 ^ 31) x / 2 ^ distance y % 2 ^ 32
binary Shr x y = x / 2 ^ distance y
binary Shl x y = x * 2 ^ distance y % 2 ^ 32
binary Fadd x y = fadd_of x y
binary Fsub x y = fsub_of x y
binary Fmul x y = fmul_of x y
binary Fdiv x y = fdiv_of x y

-- an operation on floats, by its opcode
abbrev pub is_float : BinaryOp → Bool
is_float op = nat_le 33 (row_r (Binary op)).opcode

-- the operations on whole numbers, and those on floats, each 0 for an operation of the other: lanes ask for them apart
abbrev pub integer : BinaryOp → ℕ → ℕ → ℕ
integer op x y = cond (is_float op) 0 (binary op x y)

abbrev pub arithmetic : BinaryOp → ℕ → ℕ → ℕ
arithmetic op x y = cond (is_float op) (binary op x y) 0
