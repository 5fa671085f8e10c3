-- Bits of numbers: what the contracts of other crates cite.
pub mod Bit
