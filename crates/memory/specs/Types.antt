-- The types of the operations, in one module.
pub use Rattle.isa.specs.declared.instruction.LoadOp.{LoadOp}
pub use Rattle.isa.specs.declared.instruction.LoadOp.TheVariants.{Load8, Load16, Load32, Load8u, Load16u}
pub use Rattle.isa.specs.declared.instruction.StoreOp.{StoreOp}
pub use Rattle.isa.specs.declared.instruction.StoreOp.TheVariants.{Store8, Store16, Store32}
pub use Rattle.isa.specs.declared.instruction.UnaryOp.TheVariants.{Sext8, Sext16}
