-- The rules of the float unit, and what is claimed of them.
pub mod Claims
pub mod Figures
pub mod Floats
pub mod Nearest
