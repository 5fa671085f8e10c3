-- The C library on Intel HEX: what the contracts cite.
pub mod Calls
