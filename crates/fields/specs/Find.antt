-- The word of six numbers, where they have one.
use Rattle.std.specs.Prelude.{ℕ}
use Rattle.std.specs.Prelude as code
use Rattle.std.proofs.Math.Option.{Option, none, some}
use Rattle.answer.specs.Answer.{Answer, given, refused, no_word}
use Rattle.isa.specs.Write.{write}
use Rattle.fields.specs.Instructions.{instruction_of}
use Rattle.fields.specs.Types.{Numbers, Found, Instruction}

-- a word, and the instruction whose word it is
pub record Held : Type 0 where
  pub word : ℕ
  pub instruction : Instruction

abbrev pub held : ℕ → Instruction → Held
held word instruction = record { word = word; instruction = instruction }

-- the cases of the code's answer
abbrev pub found : code.Option Found → Answer Held
found (code.Some f) = given (held f.word f.instruction)
found code.None = refused no_word

-- what an instruction is written as, beside it
abbrev pub beside : Instruction → Answer ℕ → Answer Held
beside i (given w) = given (held w i)
beside i (refused number) = refused number

-- "6: instruction to be written has no word", and no instruction has none either
abbrev pub written : Option Instruction → Answer Held
written none = refused no_word
written (some i) = beside i (write i)

-- the word of the instruction whose numbers they are
unfoldable pub word_for : Numbers → Answer Held
word_for n = written (instruction_of n)
