-- The laws that several proofs cite, here and above.
pub mod Tests
pub mod Join
pub mod Parts
pub mod Rows
pub mod Standing
pub mod Table
