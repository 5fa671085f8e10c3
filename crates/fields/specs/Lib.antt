-- The fields of an instruction word as six numbers: what the contracts cite.
pub mod Types
pub mod Numbers
pub mod Instructions
pub mod Find
pub mod Claims
