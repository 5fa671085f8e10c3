-- The operations on one word (document 01, "The words", R).
use Rattle.std.specs.Prelude.{ℕ, zero, suc, ◌/◌, ◌%◌, ◌^◌, Bool, cond, nat_le}
use Rattle.bits.specs.Bit.{is_set}
use Rattle.isa.specs.Table.{row_r}
use Rattle.isa.specs.declared.instruction.Operation.TheVariants.{Unary}
use Rattle.isa.specs.declared.instruction.UnaryOp.{UnaryOp}
use Rattle.isa.specs.declared.instruction.UnaryOp.TheVariants.{Clz, Ctz, Move, Sext8, Sext16, IntToFloat, FloatToInt}
use Rattle.word_layout.specs.Layout.{extended}
use Rattle.float.specs.Floats.{i32tof32_of, f32toi32_of}

-- the zero bits above the highest one bit of the k lowest bits, counted from the top; all k where no bit is 1
unfoldable pub zeros_above : ℕ → ℕ → ℕ
zeros_above zero x = 0
zeros_above (suc k) x = cond (is_set x k) 0 (suc (zeros_above k x))

-- the zero bits below the lowest one bit of the k lowest bits, counted from bit 0; all k where no bit is 1
unfoldable pub zeros_below : ℕ → ℕ → ℕ
zeros_below zero x = 0
zeros_below (suc k) x = cond (is_set x 0) 0 (suc (zeros_below k (x / 2)))

-- "12 clz, 13 ctz (both 32 for zero), 32 move, 43 sext8, 44 sext16", and 02 (T-08): "48 i32tof32 and 49 f32toi32"
abbrev pub unary : UnaryOp → ℕ → ℕ
unary Clz x = zeros_above 32 x
unary Ctz x = zeros_below 32 x
unary Move x = x
unary Sext8 x = extended 32 (2 ^ 7) (x % 2 ^ 8)
unary Sext16 x = extended 32 (2 ^ 15) (x % 2 ^ 16)
unary IntToFloat x = i32tof32_of x
unary FloatToInt x = f32toi32_of x

-- a conversion to or from a float, by its opcode
abbrev pub is_conversion : UnaryOp → Bool
is_conversion op = nat_le 48 (row_r (Unary op)).opcode

-- the operations within whole numbers, and the conversions, each 0 for an operation of the other: lanes ask for them apart
abbrev pub integer_unary : UnaryOp → ℕ → ℕ
integer_unary op x = cond (is_conversion op) 0 (unary op x)

abbrev pub conversion : UnaryOp → ℕ → ℕ
conversion op x = cond (is_conversion op) (unary op x) 0
