-- The types that the code declares, and those of the crates below, by their names in the definitions.
pub use Rattle.interpreter.specs.declared.outcome.Stop.{Stop}
pub use Rattle.interpreter.specs.declared.outcome.Stop.TheVariants.{Stopped, Stuck, Spent}
pub use Rattle.interpreter.specs.declared.outcome.Run.{Run}
pub use Rattle.interpreter.specs.declared.running.FastIssues.{FastIssues}
pub use Rattle.interpreter.specs.declared.running.Stretch.{Stretch}
pub use Rattle.thread_entry.specs.declared.status.Thread.{Thread}
pub use Rattle.machine.specs.declared.record.Machine.{Machine}
pub use Rattle.machine.specs.declared.scheduler.Chosen.{Chosen}
pub use Rattle.isa.specs.declared.instruction.BinaryOp.TheVariants.{Add, Fadd, Mullo, Mulhi, Mulhu, Ashr}
pub use Rattle.isa.specs.declared.instruction.UnaryOp.TheVariants.{Clz}
pub use Rattle.isa.specs.declared.instruction.CompareOp.TheVariants.{Lt, Ult}
pub use Rattle.isa.specs.declared.instruction.Operation.TheVariants.{Binary, Unary, Compare}
pub use Rattle.isa.specs.declared.instruction.MoveiOp.TheVariants.{Whole}
pub use Rattle.isa.specs.declared.instruction.LoadOp.TheVariants.{Load32}
pub use Rattle.isa.specs.declared.instruction.MemoryOp.TheVariants.{Load}
pub use Rattle.isa.specs.declared.instruction.Instruction.{Instruction}
pub use Rattle.isa.specs.declared.instruction.Instruction.TheVariants.{R, I, Movei, M}
