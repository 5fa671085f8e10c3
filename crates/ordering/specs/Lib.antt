-- The compares of words: what the contracts cite.
pub mod Compare
pub mod Order
pub mod Claims
