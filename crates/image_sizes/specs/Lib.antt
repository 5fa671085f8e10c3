-- The lengths of images: what the contracts cite.
pub mod Sizes
pub mod Claims
