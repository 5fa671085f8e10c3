-- The machine record: what the contracts cite.
pub mod Types
pub mod Search
pub mod Machine
pub mod State
pub mod WellFormed
pub mod Scheduler
pub mod Rounds
pub mod Barrier
pub mod Claims
