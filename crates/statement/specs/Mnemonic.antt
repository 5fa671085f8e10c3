-- Names of instructions, and whether operands follow them. 02, T-01: "names as in document 01", "a name that has operands"
use Rattle.std.specs.Prelude.{ℕ, Bool, true, false, ◌||◌, cond, List, [], ◌∷◌, ◌++◌, map}
use Rattle.std.proofs.Math.Option.{Option, none, some}
use Rattle.isa.specs.Rule.{has_immediate}
pub use Rattle.isa.specs.Operands.{slots}
use Rattle.isa.specs.Table.{table_r, table_movei, table_j, table_c, table_m}
use Rattle.names.specs.Name.{name_of}
use Rattle.statement.specs.Types.{Operation, Instruction, R, I, Movei, J, C, M}
use Rattle.expression.specs.Label.{same}
use Rattle.statement.specs.Types.{Slot, ARegister, AnImmediate, AnAddress, Nothing, Slots}

-- the operations of R that I has too
unfoldable pub with_immediate : List Operation → List Operation
with_immediate [] = []
with_immediate (op ∷ ops) = cond (has_immediate op) (op ∷ with_immediate ops) (with_immediate ops)

-- an instruction of each name, every field 0
unfoldable pub nameable : List Instruction
unfolding with_immediate
nameable =
    map (λ op. R op 0 0 0 0) table_r.operations ++ map (λ op. Movei op 0 0 0) table_movei.operations
    ++ map (λ op. J op 0 0) table_j.operations ++ map (λ op. C op 0 0) table_c.operations
    ++ map (λ op. M op 0 0 0) table_m.operations ++ map (λ op. I op 0 0 0 0) (with_immediate table_r.operations)

-- the instruction of a name, among some
unfoldable pub named_in : List Instruction → List ℕ → Option Instruction
named_in [] w = none
named_in (i ∷ is) w = cond (same (name_of i) w) (some i) (named_in is w)

abbrev pub named : List ℕ → Option Instruction
named w = named_in nameable w

abbrev pub is_operand : Slot → Bool
is_operand ARegister = true
is_operand AnImmediate = true
is_operand AnAddress = true
is_operand Nothing = false

-- "a name that has operands"
abbrev pub has_operands : Slots → Bool
has_operands s = is_operand s.first || is_operand s.second || is_operand s.third
