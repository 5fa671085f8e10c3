-- The C library on the night box: what the contracts cite.
pub mod Calls
