-- The types that the code declares, and those of the crates below, by their names in the definitions.
pub use Rattle.fast_path.specs.declared.action.Action.{Action}
pub use Rattle.fast_path.specs.declared.action.Action.TheVariants.{Write, Next, Jump, Lanes, Defer}
pub use Rattle.isa.specs.declared.instruction.BinaryOp.{BinaryOp}
pub use Rattle.isa.specs.declared.instruction.UnaryOp.{UnaryOp}
pub use Rattle.isa.specs.declared.instruction.UnaryOp.TheVariants.{Clz, Ctz, Move, Sext8, Sext16, IntToFloat, FloatToInt}
pub use Rattle.isa.specs.declared.instruction.CompareOp.{CompareOp}
pub use Rattle.isa.specs.declared.instruction.CompareOp.TheVariants.{Eq, Ne, Gt, Ge, Lt, Le, Ugt, Uge, Ult, Ule, Feq, Fne, Fgt, Fge, Flt, Fle}
pub use Rattle.isa.specs.declared.instruction.Operation.{Operation}
pub use Rattle.isa.specs.declared.instruction.Operation.TheVariants.{Binary, Unary, Compare}
pub use Rattle.isa.specs.declared.instruction.MoveiOp.{MoveiOp}
pub use Rattle.isa.specs.declared.instruction.JumpOp.{JumpOp}
pub use Rattle.isa.specs.declared.instruction.JumpOp.TheVariants.{Jmp, Jmpsr, Jret, Beqz, Bnez}
pub use Rattle.isa.specs.declared.instruction.LoadOp.{LoadOp}
pub use Rattle.isa.specs.declared.instruction.StoreOp.{StoreOp}
pub use Rattle.isa.specs.declared.instruction.MemoryOp.{MemoryOp}
pub use Rattle.isa.specs.declared.instruction.MemoryOp.TheVariants.{Load, Store, LoadVector, StoreVector}
pub use Rattle.isa.specs.declared.instruction.Instruction.{Instruction}
pub use Rattle.isa.specs.declared.instruction.Instruction.TheVariants.{R, I, Movei, J, M}
pub use Rattle.machine.specs.declared.record.Machine.{Machine}
pub use Rattle.execution.specs.declared.context.Context.{Context}
pub use Rattle.execution.specs.declared.operand.Source.TheVariants.{Scalar, Vector}
