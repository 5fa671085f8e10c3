-- The six numbers of an instruction, and the instruction that has six numbers.
use Rattle.std.specs.Prelude.{cond, eqb}
use Rattle.std.proofs.Math.Option.{Option, none, some, map}
use Rattle.isa.specs.Table.{row_r, row_i, row_movei, row_j, row_c, row_m, table_r, table_movei, table_j, table_c, table_m, operation_at}
use Rattle.fields.specs.Numbers.{numbers, same_numbers}
use Rattle.fields.specs.Types.{Numbers, Instruction, R, I, Movei, J, C, M}

-- an instruction's format, its opcode in the table, its flags and its fields: 0 R, 1 I, 2 MOVEI, 3 J, 4 C, 5 M. Where a format has no
-- such field, the number is 0.
abbrev pub instruction_numbers : Instruction → Numbers
instruction_numbers (R op flags d a b) = numbers 0 (row_r op).opcode flags d a b
instruction_numbers (I op flags d a immediate) = numbers 1 (row_i op).opcode flags d a immediate
instruction_numbers (Movei op flag d immediate) = numbers 2 (row_movei op).opcode flag d immediate 0
instruction_numbers (J op register offset) = numbers 3 (row_j op).opcode 0 register offset 0
instruction_numbers (C op first second) = numbers 4 (row_c op).opcode 0 first second 0
instruction_numbers (M op register base offset) = numbers 5 (row_m op).opcode 0 register base offset

-- the instruction with that format and opcode, if its table has the opcode, and with the other numbers in its fields
unfoldable pub shaped : Numbers → Option Instruction
shaped n =
    cond (eqb n.format 0) (map (λ op. R op n.flags n.first n.second n.third) (operation_at table_r n.opcode))
    (cond (eqb n.format 1) (map (λ op. I op n.flags n.first n.second n.third) (operation_at table_r n.opcode))
    (cond (eqb n.format 2) (map (λ op. Movei op n.flags n.first n.second) (operation_at table_movei n.opcode))
    (cond (eqb n.format 3) (map (λ op. J op n.first n.second) (operation_at table_j n.opcode))
    (cond (eqb n.format 4) (map (λ op. C op n.first n.second) (operation_at table_c n.opcode))
    (cond (eqb n.format 5) (map (λ op. M op n.first n.second n.third) (operation_at table_m n.opcode))
    none)))))

-- it, if the numbers are its own
abbrev pub owned : Numbers → Option Instruction → Option Instruction
owned n none = none
owned n (some i) = cond (same_numbers (instruction_numbers i) n) (some i) none

-- the instruction whose numbers they are
unfoldable pub instruction_of : Numbers → Option Instruction
instruction_of n = owned n (shaped n)
