-- The types that the code declares, and those of the crates below, under one roof.
pub use Rattle.expression.specs.declared.value.Value.{Value}
pub use Rattle.expression.specs.declared.value.Value.TheVariants.{Known, TooLarge, Unknown}
pub use Rattle.statement.specs.declared.operands.OperandValues.{OperandValues}
pub use Rattle.assembler.specs.declared.lines.Pass.{Pass}
pub use Rattle.assembler.specs.declared.lines.Pass.TheVariants.{Texts, Labels, Words}
