-- Operations on words: what the contracts cite.
pub mod Binary
pub mod Unary
pub mod Claims
