-- The types that the code declares, by their names in the definitions.
pub use Rattle.thread_entry.specs.declared.status.Status.{Status}
pub use Rattle.thread_entry.specs.declared.status.Status.TheVariants.{Idle, Running, Ended, Trapped, Waiting}
pub use Rattle.thread_entry.specs.declared.status.Thread.{Thread}
pub use Rattle.thread_entry.specs.declared.status.Limits.{Limits}
