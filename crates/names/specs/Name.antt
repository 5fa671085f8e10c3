-- The names of instructions, from the rows of the tables (document 01, "The words").
use Rattle.std.specs.Prelude.{ℕ, ◌+◌, ◌-◌, List, ◌++◌, length, replicate, set}
use Rattle.isa.specs.Table.{row_r, row_i, row_movei, row_j, row_c, row_m}
use Rattle.isa.specs.declared.instruction.Instruction.{Instruction}
use Rattle.isa.specs.declared.instruction.Instruction.TheVariants.{R, I, Movei, J, C, M}
use Rattle.names.specs.declared.name.Name.{Name}

-- the name of an instruction, as bytes
abbrev pub name_of : Instruction → List ℕ
name_of (R op flags d a b) = (row_r op).name
name_of (I op flags d a immediate) = (row_i op).name
name_of (Movei op flag d immediate) = (row_movei op).name
name_of (J op register offset) = (row_j op).name
name_of (C op first second) = (row_c op).name
name_of (M op register base offset) = (row_m op).name

-- a text in n bytes, with zeros after it
abbrev pub padded : ℕ → List ℕ → List ℕ
padded n t = t ++ replicate (n - length t) 0

-- a text of at most 16 bytes as the code's `Name`: zeros after it
abbrev pub spelled : List ℕ → Name
spelled t = record { bytes = padded 16 t; len = length t }

-- a name with a byte more
abbrev pub extended : Name → ℕ → Name
extended n b = record { bytes = set n.bytes n.len b; len = n.len + 1 }
