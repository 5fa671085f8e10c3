-- Laws that several proofs cite.
pub mod Words
pub mod Families
pub mod Vectors
pub mod Compares
pub mod Trying
