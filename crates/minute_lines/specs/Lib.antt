-- The lines of the night box: what the contracts cite.
pub mod Types
pub mod Line
pub mod Parsing
pub mod Answers
pub mod Taking
pub mod Figures
pub mod Claims
