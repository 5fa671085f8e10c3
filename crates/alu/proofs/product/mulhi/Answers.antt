-- `product::mulhi` meets its contract: the unsigned high half, less what each negative operand has too much.
use Rattle.std.proofs.Common.{sym, ◌∙◌, ap₂, rules}
use Rattle.isa.specs.declared.instruction.BinaryOp.TheVariants.{Sub}
use Rattle.alu.specs.Binary.{binary}
use Rattle.alu.proofs.Products.{mulhi-is}
use Rattle.alu.proofs.product.mulhi.Goals as goal

pub returns : goal.returns
returns c =
    ap₂ (binary Sub) (ap₂ (binary Sub) c.mulhu.ensures c.excess.ensures) c.excess-2.ensures
    ∙ sym (mulhi-is c.args.x c.args.y (search rules) (search rules))
