-- Laws that belong to no one function.
pub mod Figures
pub mod Lengths
mod Pages
pub mod Shown
