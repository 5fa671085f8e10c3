-- The laws that several proofs cite, and the proofs of the claims.
pub mod Figures
pub mod Texts
pub mod Steps
pub mod Lines
pub mod Inputs
pub mod Shown
pub mod Nights
pub mod Claims
