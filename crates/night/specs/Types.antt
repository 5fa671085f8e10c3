-- The types that the code declares, by their names in the definitions, and what is kept.
use Rattle.std.specs.Prelude.{ℕ, Option}
pub use Rattle.night.specs.declared.outcome.Tick.{Tick}

-- the minute of the last call that was not refused, if there was one
abbrev pub Kept : Type 0
Kept = Option ℕ
