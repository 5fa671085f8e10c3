-- The cases of the code's answers, as values and numbers of document 01.
use Rattle.std.specs.Prelude.{Bool, cond, Result, Ok, Err}
use Rattle.answer.specs.Answer.{Answer, given, refused, bad-record}
use Rattle.answer.specs.Refusal.{row_of}
use Rattle.answer.specs.declared.refusal.Refusal.{Refusal}

-- a value, or the number of what the call is refused for
abbrev pub answered : {A : Type 0} → Result A Refusal → Answer A
answered (Ok a) = given a
answered (Err refusal) = refused (row_of refusal)

-- a value, if it may be had; or the number of a record that is not well formed
abbrev pub given_if : {A : Type 0} → Bool → A → Answer A
given_if b a = cond b (given a) (refused bad-record)
