-- Sixteen lanes of words: what the contracts cite.
pub mod Lanes
pub mod Claims
