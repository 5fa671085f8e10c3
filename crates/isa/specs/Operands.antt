-- The operands of an instruction. 02, T-01: "operands follow document 01's figures and field order, an offset before its bracket, fields
-- fixed at 0 left out"
use Rattle.std.specs.Prelude.{Bool, true, false}
use Rattle.isa.specs.Rule.{operand_b, allows_j, allows_c}
use Rattle.isa.specs.Types.{Instruction, R, I, Movei, J, C, M}
use Rattle.isa.specs.declared.operands.Slot.{Slot}
use Rattle.isa.specs.declared.operands.Slot.TheVariants.{ARegister, AnImmediate, AnAddress, Nothing}
use Rattle.isa.specs.declared.operands.Slots.{Slots}

-- An operand is a register, an expression, or an offset before a base register in brackets; `Nothing` stands for one that is left out.

abbrev pub three : Slot → Slot → Slot → Slots
three x y z = record { first = x; second = y; third = z }

-- "fields fixed at 0 left out": an operand whose field may be other than 0
abbrev pub where-free : Bool → Slot → Slot
where-free true s = s
where-free false s = Nothing

-- an instruction's operands, in field order
abbrev pub slots : Instruction → Slots
slots (R op flags d a b) = three ARegister ARegister (where-free (operand_b op 1) ARegister)
slots (I op flags d a n) = three ARegister ARegister AnImmediate
slots (Movei op flag d n) = three ARegister AnImmediate Nothing
slots (J op r offset) = three (where-free (allows_j op 1 0) ARegister) (where-free (allows_j op 0 1) AnImmediate) Nothing
slots (C op first second) = three (where-free (allows_c op 1 0) ARegister) (where-free (allows_c op 0 1) ARegister) Nothing
slots (M op r base offset) = three ARegister AnAddress Nothing
