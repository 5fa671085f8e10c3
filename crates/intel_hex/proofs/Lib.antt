-- Laws that belong to no one function.
pub mod Figures
pub mod Pairs
pub mod Lines
pub mod Words
pub mod Texts
pub mod Fields
pub mod Bodies
pub mod Scanning
pub mod Stored
pub mod Contents
pub mod Passing
pub mod Addresses
pub mod Again
pub mod Shown
mod HighDigit
