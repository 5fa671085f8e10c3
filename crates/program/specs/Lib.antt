-- A program's bytes: what the contracts cite.
pub mod Program
