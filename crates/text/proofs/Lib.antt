-- Laws that belong to no one function.
pub mod Digits
pub mod Placing
pub mod Parts
pub mod Lengths
pub mod Shown
pub mod Arguments
