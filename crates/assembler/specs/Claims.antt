-- What is proved of the definitions of a source.
use Rattle.std.specs.Prelude.{ℕ, ◌+◌, ◌≤◌, List, [], ◌∷◌, map, ◌↔◌, ◌≡◌, length}
use Rattle.std.proofs.Math.Option.{Option, none, some}
use Rattle.answer.specs.Answer.{given}
use Rattle.answer.specs.Refusal.{program_words}
use Rattle.isa.specs.Read.{read}
use Rattle.statement.specs.Types.{Instruction}
use Rattle.statement.specs.Field.{value_in}
use Rattle.statement.specs.Line.{Line, blank, label, instruction}
use Rattle.statement.specs.Meaning.{meaning_of}
use Rattle.assembler.specs.Types.{Value, Known, TooLarge, Unknown}
use Rattle.assembler.specs.Source.{at-line, first, texts_of, lines_of, labels_of, address_among}
use Rattle.assembler.specs.Source.{count, text_number, label_number, word_number, words, refused, assembly}

-- the meanings of lines, counted on from an address
abbrev pub value_meaning : (ℕ → Option Instruction) → Value → Option Instruction
value_meaning meaning (Known v) = meaning v
value_meaning meaning TooLarge = none
value_meaning meaning Unknown = none

abbrev pub and_meaning : Option Instruction → List Instruction → List Instruction
and_meaning none is = is
and_meaning (some i) is = i ∷ is

unfoldable pub meanings_from : (List ℕ → Option ℕ) → ℕ → List Line → List Instruction
meanings_from addresses at [] = []
meanings_from addresses at (blank ∷ ls) = meanings_from addresses at ls
meanings_from addresses at (label w ∷ ls) = meanings_from addresses at ls
meanings_from addresses at (instruction i os ∷ ls) =
    and_meaning (value_meaning (λ v. meaning_of i os v at) (value_in addresses os.expression)) (meanings_from addresses (at + 4) ls)

abbrev pub addresses_of : List ℕ → List ℕ → Option ℕ
addresses_of source = address_among (labels_of (lines_of source))

-- The words of a source read back as its lines' meanings, one by one.
unfoldable pub ReadsBack : Type 0
ReadsBack =
    (source ws : List ℕ) (room : ℕ) → assembly source room ≡ words ws
    → map read ws ≡ map given (meanings_from (addresses_of source) 0 (lines_of source))

-- A source has at most as many instructions as a program has words.
unfoldable pub FewWords : Type 0
FewWords = (source : List ℕ) → length source ≤ 65536 → count (lines_of source) ≤ program_words

-- no pass refuses a line
pub record Accepted (source : List ℕ) : Type 0 where
  pub short : length source ≤ 65536
  pub texts : first text_number (texts_of source) ≡ none
  pub labels : first (label_number (addresses_of source)) (lines_of source) ≡ none
  pub words : first (word_number (addresses_of source)) (lines_of source) ≡ none

-- 1 is given exactly where no line is refused and no instruction stands.
unfoldable pub NoProgram : Type 0
NoProgram = (source : List ℕ) (room : ℕ) → (assembly source room ≡ refused (at-line 1 0)) ↔ (Accepted source × (count (lines_of source) ≡ 0))
