-- The code's types, by their names.
pub use Rattle.intel_hex.specs.declared.record.Heading.{Heading}
pub use Rattle.intel_hex.specs.declared.record.Heading.TheVariants.{Data, Base, End}
pub use Rattle.intel_hex.specs.declared.scan.Cursor.{Cursor}
pub use Rattle.intel_hex.specs.declared.storing.Place.{Place}
