-- The types that the code declares, and those of the crates below, by their names in the definitions.
pub use Rattle.trace.specs.declared.row.Row.{Row}
pub use Rattle.trace.specs.declared.tracing.Step.{Step}
pub use Rattle.answer.specs.declared.refusal.Refusal.{Refusal}
pub use Rattle.interpreter.specs.declared.outcome.Stop.{Stop}
pub use Rattle.interpreter.specs.declared.outcome.Stop.TheVariants.{Stopped, Stuck, Spent}
pub use Rattle.interpreter.specs.declared.outcome.Run.{Run}
pub use Rattle.machine.specs.declared.record.Machine.{Machine}
pub use Rattle.machine.specs.declared.scheduler.Turn.{Turn}
pub use Rattle.trace.specs.declared.page.Page.{Page}
