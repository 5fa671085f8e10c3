-- The types that the code declares, and those of the crates below, by their names in the definitions.
pub use Rattle.execution.specs.declared.operand.Source.{Source}
pub use Rattle.execution.specs.declared.operand.Source.TheVariants.{Scalar, Vector}
pub use Rattle.execution.specs.declared.context.Context.{Context}
pub use Rattle.execution.specs.declared.issuing.Issued.{Issued}
pub use Rattle.isa.specs.declared.instruction.BinaryOp.{BinaryOp}
pub use Rattle.isa.specs.declared.instruction.UnaryOp.{UnaryOp}
pub use Rattle.isa.specs.declared.instruction.CompareOp.{CompareOp}
pub use Rattle.isa.specs.declared.instruction.Operation.{Operation}
pub use Rattle.isa.specs.declared.instruction.Operation.TheVariants.{Binary, Unary, Compare, Shuffle, GetLane}
pub use Rattle.isa.specs.declared.instruction.MoveiOp.{MoveiOp}
pub use Rattle.isa.specs.declared.instruction.MoveiOp.TheVariants.{Low, High, Whole}
pub use Rattle.isa.specs.declared.instruction.JumpOp.{JumpOp}
pub use Rattle.isa.specs.declared.instruction.JumpOp.TheVariants.{Jmp, Jmpsr, Jret, Beqz, Bnez}
pub use Rattle.isa.specs.declared.instruction.ControlOp.{ControlOp}
pub use Rattle.isa.specs.declared.instruction.ControlOp.TheVariants.{Barrier, Readcr, End}
pub use Rattle.isa.specs.declared.instruction.LoadOp.{LoadOp}
pub use Rattle.isa.specs.declared.instruction.StoreOp.{StoreOp}
pub use Rattle.isa.specs.declared.instruction.MemoryOp.{MemoryOp}
pub use Rattle.isa.specs.declared.instruction.MemoryOp.TheVariants.{Load, Store, LoadVector, StoreVector}
pub use Rattle.isa.specs.declared.instruction.Instruction.{Instruction}
pub use Rattle.isa.specs.declared.instruction.Instruction.TheVariants.{R, I, Movei, J, C, M}
pub use Rattle.machine.specs.declared.record.Machine.{Machine}
pub use Rattle.thread_entry.specs.declared.status.Status.TheVariants.{Ended, Trapped}
pub use Rattle.machine.specs.declared.barrier.BarrierResult.{BarrierResult}
