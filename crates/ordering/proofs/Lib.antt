-- Laws that several proofs cite, and the proofs of the claims.
pub mod Signs
pub mod Signed
pub mod Unsigned
pub mod FloatRows
pub mod FloatOrder
pub mod Ordered
pub mod OneRule
