-- The laws that several proofs cite.
mod Handed
pub mod Verdicts
mod Running
mod Writing
pub mod Demand
