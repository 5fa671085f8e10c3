-- What the code says of a line: of a label its name, of an instruction its operands with their value.
use Rattle.std.specs.Prelude.{ℕ, ◌+◌, ◌≤◌, List, ◌≡◌, drop, Some, None}
use Rattle.std.specs.Prelude as std
use Rattle.std.proofs.Math.Option.{Option, none, some}
use Rattle.statement.specs.Types.{Instruction}
use Rattle.token.specs.Token.{leading_word, tokens}
use Rattle.statement.specs.Types.{OperandValues}
use Rattle.statement.specs.Field.{operand_values_of}
use Rattle.statement.specs.Line as L
use Rattle.statement.specs.declared.lines.Line.{Line}
use Rattle.statement.specs.declared.lines.Line.TheVariants.{Blank, Label, Code}

pub data LineValue : Type 0 where
  nothing : LineValue
  label : List ℕ → LineValue
  code : Instruction → OperandValues → LineValue

-- a label is the letters in a row from its place on
abbrev pub line_value : List ℕ → std.Option Line → Option LineValue
line_value line None = none
line_value line (Some Blank) = some nothing
line_value line (Some (Label start)) = some (label (leading_word (drop start line)))
line_value line (Some (Code i f)) = some (code i f)

-- what a line says, by the addresses of labels
abbrev pub evaluated_by : (List ℕ → Option ℕ) → L.Line → LineValue
evaluated_by a L.blank = nothing
evaluated_by a (L.label w) = label w
evaluated_by a (L.instruction i os) = code i (operand_values_of a os)

abbrev pub evaluated_line : (List ℕ → Option ℕ) → Option L.Line → Option LineValue
evaluated_line a none = none
evaluated_line a (some l) = some (evaluated_by a l)

-- a label and its colon lie in the line
abbrev pub LabelInside : ℕ → std.Option Line → Type 0
LabelInside end None = 0 ≤ 0
LabelInside end (Some Blank) = 0 ≤ 0
LabelInside end (Some (Label start)) = start + 2 ≤ end
LabelInside end (Some (Code i f)) = 0 ≤ 0

-- a line that is a word from a place on, with a colon and something behind it, whatever the addresses are
abbrev pub IsLabelLine : List ℕ → ℕ → ℕ → std.Option Line → Type 0
IsLabelLine line start next r =
    (a : List ℕ → Option ℕ) → line_value line r ≡ evaluated_line a (L.label_line (leading_word (drop start line)) (tokens (drop next line)))
