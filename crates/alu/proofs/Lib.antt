-- Laws that several proofs cite, and the proofs of the claims.
pub mod Products
pub mod Complement
pub mod Counts
pub mod Signed
