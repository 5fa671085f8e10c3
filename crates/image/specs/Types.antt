-- The types that the code declares, and those of the crates below, in one module.
pub use Rattle.image_layout.specs.declared.layout.Kind.{Kind}
pub use Rattle.image_layout.specs.declared.layout.Kind.TheVariants.{Hd, Ti, Sr, Vr, Mm}
pub use Rattle.image_layout.specs.declared.layout.Form.{Form}
pub use Rattle.image_layout.specs.declared.layout.Form.TheVariants.{Newest, Old}
pub use Rattle.image_layout.specs.declared.layout.Shape.{Shape}
pub use Rattle.image.specs.declared.fields.ThreadFields.{ThreadFields}
pub use Rattle.machine.specs.declared.record.Machine.{Machine}
pub use Rattle.thread_entry.specs.declared.status.Status.{Status}
pub use Rattle.thread_entry.specs.declared.status.Status.TheVariants.{Idle, Running, Ended, Trapped, Waiting}
pub use Rattle.thread_entry.specs.declared.status.Thread.{Thread}
