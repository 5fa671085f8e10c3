-- The listing of a program: what the contracts cite.
pub mod Listing
