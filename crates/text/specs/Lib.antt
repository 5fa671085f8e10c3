-- Text in a lent buffer, and numbers read from text: what the contracts cite.
pub mod Number
pub mod Buffer
pub mod Parts
pub mod Argument
