-- The types that the code declares, and those of the crates below, under one roof.
pub use Rattle.isa.specs.declared.instruction.Operation.{Operation}
pub use Rattle.isa.specs.declared.instruction.MemoryOp.{MemoryOp}
pub use Rattle.isa.specs.declared.instruction.MemoryOp.TheVariants.{Load, Store, LoadVector, StoreVector}
pub use Rattle.isa.specs.declared.instruction.Instruction.{Instruction}
pub use Rattle.isa.specs.declared.instruction.Instruction.TheVariants.{R, I, Movei, J, C, M}
pub use Rattle.expression.specs.declared.value.Value.{Value}
pub use Rattle.expression.specs.declared.value.Value.TheVariants.{Known, TooLarge, Unknown}
pub use Rattle.statement.specs.declared.registers.Register.{Register}
pub use Rattle.isa.specs.declared.operands.Slot.{Slot}
pub use Rattle.isa.specs.declared.operands.Slot.TheVariants.{ARegister, AnImmediate, AnAddress, Nothing}
pub use Rattle.isa.specs.declared.operands.Slots.{Slots}
pub use Rattle.statement.specs.declared.operands.OperandValues.{OperandValues}
