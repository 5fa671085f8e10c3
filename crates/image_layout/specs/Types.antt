-- The types that the code declares.
pub use Rattle.image_layout.specs.declared.layout.Kind.{Kind}
pub use Rattle.image_layout.specs.declared.layout.Kind.TheVariants.{Hd, Ti, Sr, Vr, Mm}
pub use Rattle.image_layout.specs.declared.layout.Places.{Places}
pub use Rattle.image_layout.specs.declared.layout.Places.TheVariants.{Nothing, ByThread, ByRegister, ByBlock}
pub use Rattle.image_layout.specs.declared.layout.Form.{Form}
pub use Rattle.image_layout.specs.declared.layout.Form.TheVariants.{Newest, Old}
pub use Rattle.image_layout.specs.declared.layout.Shape.{Shape}
pub use Rattle.image_layout.specs.declared.layout.RecordRow.{RecordRow}
