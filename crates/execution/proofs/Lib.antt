-- Laws that several proofs cite, and the proofs of the claims.
pub mod Targets
pub mod Fitting
pub mod Issues
pub mod OwnRegisters
pub mod Effects
pub mod Moving
pub mod Claims
