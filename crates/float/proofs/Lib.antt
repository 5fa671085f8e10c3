-- The laws that the proofs share.
pub mod Closest
pub mod Comparing
pub mod Figures
pub mod Nearest
pub mod Numbers
pub mod Rounding
pub mod Truncating
pub mod Values
