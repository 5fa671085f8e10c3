-- Laws that other crates cite.
pub mod Sizes
pub mod Shown
