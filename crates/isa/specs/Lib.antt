-- Instruction words: what the contracts cite.
pub mod Types
pub mod Test
pub mod Text
pub mod Answer
pub mod Table
pub mod Found
pub mod Number
pub mod Rule
pub mod Template
pub mod Operands
pub mod Read
pub mod Write
pub mod Claims
