-- Laws of words as signed numbers, which proofs of other crates cite.
pub mod Sign
