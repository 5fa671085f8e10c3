-- What is proved of the definitions.
use Rattle.std.specs.Prelude.{◌≡◌, ℕ, ◌%◌, ◌^◌, ◌<◌, ◌*ℤ◌}
use Rattle.std.specs.Int.Signed.{shr_z}
use Rattle.isa.specs.declared.instruction.BinaryOp.TheVariants.{Mulhi, Ashr}
use Rattle.isa.specs.declared.instruction.UnaryOp.TheVariants.{Clz, Ctz, Sext8, Sext16}
use Rattle.twos_complement.specs.Word.{value}
use Rattle.alu.specs.Binary.{binary, distance}
use Rattle.alu.specs.Unary.{unary}

-- "7 mulhi (signed)": the signed product, divided by 2^32 and rounded down
abbrev pub MulhiIsSigned : Type 0
MulhiIsSigned = (x y : ℕ) → x < 2 ^ 32 → y < 2 ^ 32 → value 32 (binary Mulhi x y) ≡ shr_z (value 32 x *ℤ value 32 y) (2 ^ 32)

-- "9 ashr": the signed number, divided by a power of two and rounded down
abbrev pub AshrIsSigned : Type 0
AshrIsSigned = (x y : ℕ) → x < 2 ^ 32 → value 32 (binary Ashr x y) ≡ shr_z (value 32 x) (2 ^ distance y)

-- "12 clz, 13 ctz (both 32 for zero)"
unfoldable pub CountsOfZero : Type 0
CountsOfZero = (unary Clz 0 ≡ 32) × (unary Ctz 0 ≡ 32)

-- "43 sext8, 44 sext16": the signed number of the low bits
abbrev pub Sext8IsSigned : Type 0
Sext8IsSigned = (x : ℕ) → value 32 (unary Sext8 x) ≡ value 8 (x % 2 ^ 8)

abbrev pub Sext16IsSigned : Type 0
Sext16IsSigned = (x : ℕ) → value 32 (unary Sext16 x) ≡ value 16 (x % 2 ^ 16)
