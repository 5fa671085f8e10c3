-- The fast path: what it does with a word, and what the contracts cite.
pub mod Types
pub mod Action
pub mod Lanes
