-- The names of instructions: what the contracts cite.
pub mod Name
pub mod Rows
