-- The exported call on programs as text: what its contract cites.
pub mod Calls
