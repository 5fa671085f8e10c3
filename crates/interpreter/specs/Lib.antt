-- A start and a run: what the contracts cite.
pub mod Types
pub mod Answer
pub mod Refusal
pub mod Start
pub mod Choosing
pub mod Run
pub mod Stretch
pub mod Demand
pub mod Claims
pub mod Figures
