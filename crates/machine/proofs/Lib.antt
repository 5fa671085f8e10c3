-- The laws that several proofs cite, and the proofs of the claims.
pub mod Tests
pub mod Loops
pub mod Threads
pub mod Nearest
pub mod Choosing
pub mod Conditions
pub mod Kept
pub mod Turns
pub mod Rounds
pub mod Meetings
pub mod Arrivals
pub mod Starting
pub mod Claims
