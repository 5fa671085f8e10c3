-- The types of the crates below, in one module.
pub use Rattle.answer.specs.declared.refusal.Refusal.{Refusal}
pub use Rattle.interpreter.specs.declared.outcome.Stop.{Stop}
pub use Rattle.interpreter.specs.declared.outcome.Stop.TheVariants.{Stopped, Stuck, Spent}
pub use Rattle.interpreter.specs.declared.outcome.Run.{Run}
pub use Rattle.machine.specs.declared.record.Machine.{Machine}
