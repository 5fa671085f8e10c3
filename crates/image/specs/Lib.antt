-- The saved image: what the contracts cite.
pub mod Types
pub mod Saved
pub mod Fields
pub mod Image
pub mod Refusal
pub mod Answer
pub mod Calls
pub mod Opening
pub mod Claims
pub mod Rows
