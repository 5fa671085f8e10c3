-- The cases of the code's answers, as values and numbers of document 01.
use Rattle.std.specs.Prelude.{ℕ, Option, Some, None, Result, Ok, Err}
use Rattle.answer.specs.Answer.{Answer, given, refused, no_word, undefined, not-fitted}
use Rattle.isa.specs.Types.{Instruction, Unreadable, Undefined, NotFitted}

abbrev pub reading : Result Instruction Unreadable → Answer Instruction
reading (Ok i) = given i
reading (Err Undefined) = refused undefined
reading (Err NotFitted) = refused not-fitted

abbrev pub writing : Option ℕ → Answer ℕ
writing (Some w) = given w
writing None = refused no_word
