-- Words, and the six numbers of their instructions.
use Rattle.std.specs.Prelude.{ℕ, List, [], ◌∷◌, length, get_or}
use Rattle.answer.specs.Answer.{Answer, given, refused}
use Rattle.fields.specs.Find.{Held, word_for}
use Rattle.fields.specs.Instructions.{instruction_numbers}
use Rattle.fields.specs.Numbers.{numbers}
use Rattle.fields.specs.declared.numbers.Numbers.{Numbers}
use Rattle.isa.specs.Read.{read}
use Rattle.names.specs.Name.{name_of, padded}
use Rattle.answer.specs.Left.{Left, left, leaves}

-- six numbers in the order of a list, both ways
abbrev pub list_of : Numbers → List ℕ
list_of n = n.format ∷ n.opcode ∷ n.flags ∷ n.first ∷ n.second ∷ n.third ∷ []

abbrev pub numbers_in : List ℕ → Numbers
numbers_in l = numbers (get_or l 0 0) (get_or l 1 0) (get_or l 2 0) (get_or l 3 0) (get_or l 4 0) (get_or l 5 0)

-- a word read: the numbers of the instruction that it is read as
unfoldable pub read_word : ℕ → List ℕ → Left (List ℕ)
read_word w before = leaves (read w) (λ i. list_of (instruction_numbers i)) before

-- numbers written: the word of the instruction whose numbers they are
unfoldable pub write_word : List ℕ → ℕ → Left ℕ
write_word l before = leaves (word_for (numbers_in l)) (λ h. h.word) before

-- the length of the name of that instruction, and the name in eight bytes; 0 where the numbers have no word
abbrev pub named : Answer Held → List ℕ → Left (List ℕ)
named (given h) before = left (length (name_of h.instruction)) (padded 8 (name_of h.instruction))
named (refused number) before = left 0 before

unfoldable pub name_call : List ℕ → List ℕ → Left (List ℕ)
name_call l before = named (word_for (numbers_in l)) before
