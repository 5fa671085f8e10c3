-- A thread's entry: what the contracts cite.
pub mod Types
pub mod Status
pub mod Entry
