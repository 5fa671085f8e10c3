-- Loads and stores on data memory: what the contracts cite.
pub mod Types
pub mod Attempt
pub mod Place
pub mod Operation
pub mod Claims
