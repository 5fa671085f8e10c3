-- The types that the code declares, and those of the crates below, by their names in the definitions.
pub use Rattle.minute_lines.specs.declared.parsing.Line.{Line}
pub use Rattle.minute_lines.specs.declared.parsing.Line.TheVariants.{Empty, Digits, Marked, Wrong}
pub use Rattle.minute_lines.specs.declared.parsing.Reading.{Reading}
pub use Rattle.std.specs.Prelude.{Option as CodeOption, Some, None}
pub use Rattle.minute_lines.specs.declared.taking.Held.{Held}
pub use Rattle.minute_lines.specs.declared.taking.Step.{Step}
pub use Rattle.night.specs.Types.{Kept}
pub use Rattle.night.specs.declared.outcome.Tick.{Tick}
pub use Rattle.answer.specs.declared.refusal.Refusal.{Refusal}
