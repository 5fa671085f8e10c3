-- Words as signed numbers: what the contracts of other crates cite.
pub mod Word
