-- Laws that several proofs cite, and the proofs of the claims.
pub mod Places
pub mod Stepping
pub mod Claimed
pub mod Back
