-- The lines of a trace: what the contracts cite.
pub mod Types
pub mod Lines
pub mod Figures
