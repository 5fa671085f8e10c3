-- The laws that several proofs cite, and the proofs of the claims.
pub mod Checks
pub mod Lengths
pub mod Claims
