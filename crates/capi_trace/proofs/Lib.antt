-- The laws that several proofs cite.
pub mod Putting
pub mod Pages
pub mod Returned
