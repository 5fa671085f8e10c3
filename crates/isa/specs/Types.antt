-- The types that the code declares, in one module. The operations of R are imported where they are told apart.
pub use Rattle.isa.specs.declared.instruction.BinaryOp.{BinaryOp}
pub use Rattle.isa.specs.declared.instruction.UnaryOp.{UnaryOp}
pub use Rattle.isa.specs.declared.instruction.CompareOp.{CompareOp}
pub use Rattle.isa.specs.declared.instruction.Operation.{Operation}
pub use Rattle.isa.specs.declared.instruction.Operation.TheVariants.{Binary, Unary, Compare, Shuffle, GetLane}
pub use Rattle.isa.specs.declared.instruction.MoveiOp.{MoveiOp}
pub use Rattle.isa.specs.declared.instruction.MoveiOp.TheVariants.{Low, High, Whole}
pub use Rattle.isa.specs.declared.instruction.JumpOp.{JumpOp}
pub use Rattle.isa.specs.declared.instruction.JumpOp.TheVariants.{Jmp, Jmpsr, Jret, Beqz, Bnez}
pub use Rattle.isa.specs.declared.instruction.ControlOp.{ControlOp}
pub use Rattle.isa.specs.declared.instruction.ControlOp.TheVariants.{Barrier, Readcr, End}
pub use Rattle.isa.specs.declared.instruction.LoadOp.{LoadOp}
pub use Rattle.isa.specs.declared.instruction.LoadOp.TheVariants.{Load8, Load16, Load32, Load8u, Load16u}
pub use Rattle.isa.specs.declared.instruction.StoreOp.{StoreOp}
pub use Rattle.isa.specs.declared.instruction.StoreOp.TheVariants.{Store8, Store16, Store32}
pub use Rattle.isa.specs.declared.instruction.MemoryOp.{MemoryOp}
pub use Rattle.isa.specs.declared.instruction.MemoryOp.TheVariants.{Load, Store, LoadVector, StoreVector}
pub use Rattle.isa.specs.declared.instruction.Instruction.{Instruction}
pub use Rattle.isa.specs.declared.instruction.Instruction.TheVariants.{R, I, Movei, J, C, M}
pub use Rattle.isa.specs.declared.instruction.Unreadable.{Unreadable}
pub use Rattle.isa.specs.declared.instruction.Unreadable.TheVariants.{Undefined, NotFitted}
