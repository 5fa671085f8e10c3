-- The layout of an instruction word: what the contracts cite.
pub mod Layout
