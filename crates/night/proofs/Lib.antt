-- The laws that several proofs cite, and the proofs of the claims.
pub mod Figures
pub mod Minutes
pub mod Stored
pub mod Refusals
pub mod Ticks
pub mod Turns
pub mod Claims
