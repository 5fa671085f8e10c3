-- Laws that several proofs cite.
pub mod Picked
pub mod LaneFlags
