-- What a line of a source says: nothing, a label, or an instruction with its operands.
use Rattle.std.specs.Prelude.{ℕ, ◌+◌, Bool, ◌||◌, not, cond, List, [], ◌∷◌, eqb, ltb, length, drop, get_or}
use Rattle.std.proofs.Math.Option.{Option, none, some}
use Rattle.statement.specs.Types.{Instruction}
use Rattle.token.specs.Byte.{is_blank}
use Rattle.expression.specs.Grammar.{Parse}
use Rattle.token.specs.Token.{past, Token, word, mark, leading_blanks, leading_word, tokens}
use Rattle.token.specs.Name.{is_label}
use Rattle.statement.specs.Mnemonic.{named, slots, has_operands}
use Rattle.statement.specs.Operand.{Operands, operands_at}

pub data Line : Type 0 where
  blank : Line
  label : List ℕ → Line
  instruction : Instruction → Operands → Line

-- the bytes of a text before the first that is c
unfoldable pub up_to : ℕ → List ℕ → List ℕ
up_to c [] = []
up_to c (d ∷ ds) = cond (eqb d c) [] (d ∷ up_to c ds)

-- "a semicolon opens a comment"
abbrev pub uncommented : List ℕ → List ℕ
uncommented text = up_to 59 text

-- nothing stands behind the last operand
abbrev pub ended_by : Operands → List Token → Option Operands
ended_by os [] = some os
ended_by os (t ∷ ts) = none

abbrev pub ended : Option (Parse Operands) → Option Operands
ended none = none
ended (some o) = ended_by o.value o.rest

-- "spaces and tabs .. must follow a name that has operands"
abbrev pub instruction_by : Instruction → Bool → Option Operands → Option Line
instruction_by i spaced none = none
instruction_by i spaced (some os) = cond (spaced || not (has_operands (slots i))) (some (instruction i os)) none

-- a line that begins with a name
abbrev pub named_line : Option Instruction → Bool → List Token → Option Line
named_line none spaced ts = none
named_line (some i) spaced ts = instruction_by i spaced (ended (operands_at (slots i) ts))

-- "A label ends in a colon": a word, a colon, and nothing behind it
abbrev pub label_line : List ℕ → List Token → Option Line
label_line w [] = cond (is_label w) (some (label w)) none
label_line w (t ∷ ts) = none

abbrev pub by_colon : List ℕ → Bool → List Token → Option (List Token) → Option Line
by_colon w spaced ts none = named_line (named w) spaced ts
by_colon w spaced ts (some rest) = label_line w rest

abbrev pub token_line : Bool → List Token → Option Line
token_line spaced [] = some blank
token_line spaced (word w ∷ ts) = by_colon w spaced ts (past 58 ts)
token_line spaced (mark c ∷ ts) = none

-- whether a blank follows a text's first word
abbrev pub word_end : List ℕ → ℕ
word_end text = leading_blanks text + length (leading_word (drop (leading_blanks text) text))

abbrev pub is_spaced : List ℕ → Bool
is_spaced text = is_blank (get_or text (word_end text) 0)

abbrev pub code_line : List ℕ → Option Line
code_line text = token_line (is_spaced text) (tokens text)

-- "at most one instruction or label a line", "lines to 120 bytes"; none where the line is too long or malformed
unfoldable pub line_of : List ℕ → Option Line
line_of text = cond (ltb 120 (length text)) none (code_line (uncommented text))
