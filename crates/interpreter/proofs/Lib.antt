-- The laws that several proofs cite, and the proofs of the claims.
pub mod Rooms
pub mod Refusals
pub mod Issuing
pub mod Looks
pub mod RoundRobin
pub mod Calls
pub mod Fairness
pub mod Runs
pub mod Endings
pub mod Turns
pub mod Starts
pub mod Figures
pub mod Claims
