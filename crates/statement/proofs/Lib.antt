-- Laws that belong to no one function.
pub mod Parts
pub mod Digits
pub mod Named
pub mod Fielded
pub mod Ends
pub mod Letters
pub mod Tokens
pub mod Saying
pub mod Claims
pub mod Shortest
