-- Laws that belong to no one function, and the proofs of what specs/ claims.
pub mod Both
pub mod Lookup
pub mod Tables
pub mod Room
pub mod Parts
pub mod Answers
pub mod Number
pub mod Formats
pub mod RoundTrip
pub mod Cases
pub mod Ranges
pub mod Fitted
pub mod Sets
