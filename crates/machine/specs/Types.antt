-- The types that the code declares, here and below, by their names in the definitions.
pub use Rattle.thread_entry.specs.declared.status.Status.{Status}
pub use Rattle.thread_entry.specs.declared.status.Status.TheVariants.{Idle, Running, Ended, Trapped, Waiting}
pub use Rattle.thread_entry.specs.declared.status.Thread.{Thread}
pub use Rattle.thread_entry.specs.declared.status.Limits.{Limits}
pub use Rattle.machine.specs.declared.record.Machine.{Machine}
pub use Rattle.machine.specs.declared.scheduler.Chosen.{Chosen}
pub use Rattle.machine.specs.declared.scheduler.Turn.{Turn}
pub use Rattle.machine.specs.declared.barrier.BarrierResult.{BarrierResult}
