-- A compare of sixteen lanes: what the contracts cite.
pub mod Lanes
pub mod Outcome
