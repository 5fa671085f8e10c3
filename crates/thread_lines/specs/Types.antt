-- The types of the machine record, in one module.
pub use Rattle.machine.specs.declared.record.Machine.{Machine}
pub use Rattle.thread_entry.specs.declared.status.Status.{Status}
pub use Rattle.thread_entry.specs.declared.status.Status.TheVariants.{Idle, Running, Ended, Trapped, Waiting}
