-- Numbers in bytes: what the contracts cite.
pub mod Numbers
