-- The operations of the tables as instructions with every field 0, by format and opcode: what a name stands for.
use Rattle.std.specs.Prelude.{ℕ, cond, ◌==◌}
use Rattle.std.proofs.Math.Option.{Option, none, some}
use Rattle.isa.specs.Rule.{has_immediate}
use Rattle.isa.specs.Table.{operation_at, table_r, table_movei, table_j, table_c, table_m}
use Rattle.isa.specs.Types.{Operation, Instruction, R, I, Movei, J, C, M}

abbrev pub made : {A : Type 0} → (A → Instruction) → Option A → Option Instruction
made f none = none
made f (some op) = some (f op)

abbrev pub made_i : Option Operation → Option Instruction
made_i none = none
made_i (some op) = cond (has_immediate op) (some (I op 0 0 0 0)) none

-- the formats by their numbers: 0 R, 1 I, 2 MOVEI, 3 J, 4 C, 5 M
abbrev pub template_at : ℕ → ℕ → Option Instruction
template_at f o =
    cond (f == 0) (made (λ op. R op 0 0 0 0) (operation_at table_r o))
    (cond (f == 1) (made_i (operation_at table_r o))
    (cond (f == 2) (made (λ op. Movei op 0 0 0) (operation_at table_movei o))
    (cond (f == 3) (made (λ op. J op 0 0) (operation_at table_j o))
    (cond (f == 4) (made (λ op. C op 0 0) (operation_at table_c o))
    (cond (f == 5) (made (λ op. M op 0 0 0) (operation_at table_m o)) none)))))
