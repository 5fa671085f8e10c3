-- The C library's traced run: what the contracts cite.
pub mod Numbers
pub mod Pages
pub mod Calls
