-- The laws that several proofs cite, and the proofs of the claims.
pub mod Bodies
pub mod Words
pub mod FourBytes
pub mod Numbers
pub mod Refusals
pub mod RecordIn
pub mod Openings
pub mod Rooms
pub mod Written
pub mod Records
pub mod Restored
pub mod Places
pub mod RoundTrip
pub mod Computed
pub mod Claims
