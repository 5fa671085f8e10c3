-- Laws that belong to no one function.
pub mod Texts
pub mod Counted
pub mod Tables
pub mod Rules
pub mod Walking
pub mod Filling
pub mod Written
pub mod Refusals
pub mod Figures
pub mod Claims
pub mod Shown
