-- `name_of` meets its contract: by the instruction's format, the name in the row of its opcode.
use mathlib.Core.Path.{◌∙◌}
use native.Mathlib.Omega.{arith}
use Rattle.isa.specs.Table.{row_r}
use Rattle.isa.specs.Text.{bytes}
use Rattle.names.proofs.Names.{of-R, short, name-one-more}
use Rattle.names.proofs.name.name_of.Goals as goal

pub extend-requires : goal.extend-requires
extend-requires c =
    let h = short c.in-I.op in
    rw (c.find-in-I.ensures, c.opcode_of-opcode.ensures, c.in-I.is, of-R c.in-I.op) (omega arith)

pub returns-in-I : goal.returns-in-I
unfolding bytes
returns-in-I c =
    let h = short c.in-I.op in
    c.extend.ensures
    ∙ rw (c.find-in-I.ensures, c.opcode_of-opcode.ensures, c.in-I.is, of-R c.in-I.op)
    (name-one-more (row_r c.in-I.op).name 105 (omega arith))
