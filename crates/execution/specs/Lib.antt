-- One issue of a thread: the rules, and what the contracts cite.
pub mod Types
pub mod Registers
pub mod Operand
pub mod Effect
pub mod Operation
pub mod Immediate
pub mod Jump
pub mod Control
pub mod Access
pub mod Issue
pub mod Claims
