-- What is proved of the definitions of a line.
use Rattle.std.specs.Prelude.{ℕ, ◌≤◌, ◌<◌, List, map, ◌↔◌, ◌≡◌, length}
use Rattle.std.proofs.Math.Option.{some}
use Rattle.answer.specs.Answer.{given}
use Rattle.isa.specs.Read.{read}
use Rattle.names.specs.Name.{name_of}
use Rattle.statement.specs.Types.{Instruction}
use Rattle.statement.specs.Types.{Register}
use Rattle.statement.specs.Mnemonic.{nameable, named}
use Rattle.statement.specs.Register.{spelled, register_of}
use Rattle.statement.specs.Operand.{Operands}
use Rattle.statement.specs.Line.{instruction, line_of}
use Rattle.statement.specs.Meaning.{meaning_with, word_with}

-- No two instructions share a name: the instruction of each one's name is itself.
unfoldable pub NamesApart : Type 0
NamesApart = map (λ i. named (name_of i)) nameable ≡ map (λ i. some i) nameable

-- "a register is s0 to s63 or v0 to v63": a word is a register exactly if it is spelled as one of these.
unfoldable pub Registers : Type 0
Registers = (w : List ℕ) (r : Register) → (register_of w ≡ some r) ↔ ((w ≡ spelled r) × (r.number < 64))

-- A line's meaning is an instruction of the line's name, and its word reads back as its meaning.
unfoldable pub SameName : Type 0
SameName = (i j : Instruction) (x y z : Register) (n at : ℕ) → meaning_with i x y z n at ≡ some j → name_of j ≡ name_of i

unfoldable pub ReadsBack : Type 0
ReadsBack = (i j : Instruction) (x y z : Register) (n at w : ℕ)
    → meaning_with i x y z n at ≡ some j → word_with i x y z n at ≡ some w → read w ≡ given j

-- The shortest line with an instruction is `end`.
unfoldable pub Shortest : Type 0
Shortest = (text : List ℕ) (i : Instruction) (os : Operands) → line_of text ≡ some (instruction i os) → 3 ≤ length text
