-- Laws that belong to no one function.
pub mod Tokens
pub mod Steps
pub mod Places
pub mod Values
pub mod Words
pub mod Named
pub mod Exact
