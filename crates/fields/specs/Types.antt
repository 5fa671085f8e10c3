-- The types that the code declares, and those of instructions, in one module.
pub use Rattle.fields.specs.declared.numbers.Numbers.{Numbers}
pub use Rattle.fields.specs.declared.numbers.Found.{Found}
pub use Rattle.isa.specs.declared.instruction.MoveiOp.{MoveiOp}
pub use Rattle.isa.specs.declared.instruction.Instruction.{Instruction}
pub use Rattle.isa.specs.declared.instruction.Instruction.TheVariants.{R, I, Movei, J, C, M}
