-- What a call gives back: what the contracts of every crate cite.
pub mod Answer
pub mod Reason
pub mod Refusal
pub mod Left
pub mod Claims
