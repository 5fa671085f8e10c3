-- The tokens of a program's text: what the contracts cite.
pub mod Byte
pub mod Token
pub mod Number
pub mod Name
pub mod Scan
pub mod Word
