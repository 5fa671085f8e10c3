-- The types of the crates below, in one module.
pub use Rattle.thread_entry.specs.declared.status.Status.{Status}
pub use Rattle.thread_entry.specs.declared.status.Status.TheVariants.{Idle, Running, Ended, Trapped, Waiting}
pub use Rattle.trace.specs.declared.row.Row.{Row}
