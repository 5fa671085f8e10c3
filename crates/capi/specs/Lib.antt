-- The C library on a machine: what the contracts cite.
pub mod Answer
pub mod Refusal
pub mod Runs
pub mod Images
pub mod Demand
