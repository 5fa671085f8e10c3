-- A walk over the lines of a source, and the code's answers.
use Rattle.std.specs.Prelude.{ℕ, ◌+◌, ◌*◌, ◌%◌, ◌^◌, ◌≤◌, ◌<◌, cond, List, [], ◌∷◌, map, ◌≡◌, eqb, length, drop, set, Some, None, Result, Ok, Err}
use Rattle.std.specs.Prelude as std
use Rattle.std.proofs.Math.Option.{Option, none, some}
use Rattle.token.specs.Token.{leading_word}
use Rattle.statement.specs.Meaning.{word_with}
use Rattle.statement.specs.Line.{up_to}
use Rattle.statement.specs.Evaluation.{LineValue, nothing, label, code}
use Rattle.statement.specs.Types.{Instruction}
use Rattle.statement.specs.declared.lines.Line.{Line}
use Rattle.statement.specs.declared.lines.Line.TheVariants.{Blank, Label, Code}
use Rattle.assembler.specs.Types.{OperandValues, Pass, Texts, Labels, Words}
use Rattle.answer.specs.Answer.{bad-source}
use Rattle.assembler.specs.Source as S
use Rattle.assembler.specs.Source.{Refusal, text_number, label_number, word_number, line_in}
use Rattle.assembler.specs.Source.{lines_of, labels_of, named, name_number, unknown_in, value_number, value_word}
use Rattle.answer.specs.declared.refusal.RefusedLine.{RefusedLine}
use Rattle.assembler.specs.Into.{refused_at}

-- the bytes before the first LF
abbrev pub first_text : List ℕ → List ℕ
first_text text = up_to 10 text

-- the rule of a pass, on texts
abbrev pub rule_of : Pass → (List ℕ → Option ℕ) → List (List ℕ) → List ℕ → Option ℕ
rule_of Texts a before text = text_number before text
rule_of Labels a before text = label_number a (map line_in before) (line_in text)
rule_of Words a before text = word_number a (map line_in before) (line_in text)

-- labels as the code holds them: the places of their names, and their addresses, in turn
unfoldable pub entries : List ℕ → List ℕ → List S.Label
entries source [] = []
entries source (place ∷ []) = []
entries source (place ∷ address ∷ rest) = named (leading_word (drop place source)) address ∷ entries source rest

-- what a rule says of a line, by the labels and the number of words before it
abbrev pub instruction_word : Instruction → OperandValues → ℕ → ℕ → Option ℕ
instruction_word i f k v = word_with i f.first f.second f.third (v % 2 ^ 32) (4 * k)

abbrev pub line_number_of : Pass → List S.Label → ℕ → Option LineValue → Option ℕ
line_number_of Texts ls k none = some bad-source
line_number_of Texts ls k (some s) = none
line_number_of Labels ls k none = none
line_number_of Labels ls k (some nothing) = none
line_number_of Labels ls k (some (label w)) = name_number ls w
line_number_of Labels ls k (some (code i f)) = unknown_in f.value
line_number_of Words ls k none = none
line_number_of Words ls k (some nothing) = none
line_number_of Words ls k (some (label w)) = none
line_number_of Words ls k (some (code i f)) = value_number (instruction_word i f k) f.value

-- the code's answers
abbrev pub verdict_of : Result Unit RefusedLine → Option Refusal
verdict_of (Ok u) = none
verdict_of (Err r) = some (refused_at r)

-- how many labels a line has, and how many words
abbrev pub labels_in : std.Option Line → ℕ
labels_in None = 0
labels_in (Some Blank) = 0
labels_in (Some (Label start)) = 1
labels_in (Some (Code i f)) = 0

abbrev pub words_in : std.Option Line → ℕ
words_in None = 0
words_in (Some Blank) = 0
words_in (Some (Label start)) = 0
words_in (Some (Code i f)) = 1

-- the pass that judges labels goes by a table of them
abbrev pub TableAt : Pass → List ℕ → ℕ → Type 0
TableAt Texts labels n = 0 ≤ 0
TableAt Labels labels n = 2 * n ≤ length labels
TableAt Words labels n = 0 ≤ 0

abbrev pub TableFor : Pass → List ℕ → List ℕ → Type 0
TableFor Texts source labels = 0 ≤ 0
TableFor Labels source labels = entries source labels ≡ labels_of (lines_of source)
TableFor Words source labels = 0 ≤ 0

-- the word of a line behind so many instructions
abbrev pub line_word : ℕ → std.Option Line → Option ℕ
line_word k None = none
line_word k (Some Blank) = none
line_word k (Some (Label start)) = none
line_word k (Some (Code i f)) = value_word (instruction_word i f k) f.value

-- a word stored behind k others, if there is one; that there is room for it; and how many there are then
abbrev pub stored : ℕ → Option ℕ → List ℕ → List ℕ
stored k none buffer = buffer
stored k (some w) buffer = set buffer k w

abbrev pub RoomFor : Option ℕ → ℕ → ℕ → Type 0
RoomFor none k room = 0 ≤ 0
RoomFor (some w) k room = k < room

abbrev pub onwards : ℕ → Option ℕ → ℕ
onwards k none = k
onwards k (some w) = k + 1

abbrev pub word_found : std.Option ℕ → Option ℕ
word_found (Some w) = some w
word_found None = none
