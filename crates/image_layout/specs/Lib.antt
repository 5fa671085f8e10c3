-- The table of an image's records: what the contracts cite.
pub mod Types
pub mod Join
pub mod Layout
