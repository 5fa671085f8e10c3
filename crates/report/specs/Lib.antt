-- What the runner prints: what the contracts cite.
pub mod Types
pub mod Report
