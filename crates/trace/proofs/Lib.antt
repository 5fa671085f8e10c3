-- The laws that several proofs cite, and the proofs of the claims.
pub mod Rules
pub mod Lists
pub mod Following
pub mod Claims
