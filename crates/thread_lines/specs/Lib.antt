-- The lines of a machine's threads: what the contracts cite.
pub mod Types
pub mod Text
pub mod Lines
