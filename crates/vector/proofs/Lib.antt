-- Laws that several proofs cite, and the proofs of the claims.
pub mod Filling
pub mod Halves
