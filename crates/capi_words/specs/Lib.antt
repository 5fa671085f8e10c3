-- The C library on words: what the contracts cite.
pub mod Words
