-- A traced run: what the contracts cite.
pub mod Types
pub mod Rows
pub mod Traced
pub mod Joining
pub mod Turn
pub mod Claims
