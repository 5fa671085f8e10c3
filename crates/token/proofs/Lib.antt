-- Laws that belong to no one function.
pub mod Bytes
pub mod Runs
pub mod Tokens
pub mod Numbers
