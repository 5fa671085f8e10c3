-- Laws of signed fields.
pub mod Signed
