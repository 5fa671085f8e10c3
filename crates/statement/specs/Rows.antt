-- The instructions that the code goes through for a name: those of the rows of `names`, and then those of R's rows again as I has them.
use Rattle.std.specs.Prelude.{ℕ, Bool, true, false, cond, List, [], ◌∷◌, ◌++◌, eqb, take}
use Rattle.std.proofs.Math.Option.{Option, none, some}
use Rattle.isa.specs.Template.{template_at}
use Rattle.names.specs.declared.name.NameRow.{NameRow}
use Rattle.expression.specs.Label.{same}
use Rattle.statement.specs.Types.{Instruction}

-- the instruction of a row, by the number of its format and its opcode; or that of I
abbrev pub row_template : Bool → NameRow → Option Instruction
row_template true r = cond (eqb r.0 0) (template_at 1 r.1) none
row_template false r = template_at r.0 r.1

-- a row's name; "Names end in i" of I
abbrev pub row_name : Bool → NameRow → List ℕ
row_name true r = take r.2 r.3 ++ 105 ∷ []
row_name false r = take r.2 r.3

-- the instruction of a row, if a word is its name; or what there is otherwise
abbrev pub tried_as : Option Instruction → List ℕ → List ℕ → Option Instruction → Option Instruction
tried_as none n w otherwise = otherwise
tried_as (some i) n w otherwise = cond (same n w) (some i) otherwise

abbrev pub tried : Bool → NameRow → List ℕ → Option Instruction → Option Instruction
tried immediate r w otherwise = tried_as (row_template immediate r) (row_name immediate r) w otherwise

unfoldable pub in_rows : Bool → List NameRow → List ℕ → Option Instruction → Option Instruction
in_rows immediate [] w otherwise = otherwise
in_rows immediate (r ∷ rs) w otherwise = tried immediate r w (in_rows immediate rs w otherwise)
