-- One line of a program as text: what the contracts cite.
pub mod Types
pub mod Mnemonic
pub mod Register
pub mod Operand
pub mod Line
pub mod Meaning
pub mod Rows
pub mod Found
pub mod Field
pub mod Evaluation
pub mod Claims
