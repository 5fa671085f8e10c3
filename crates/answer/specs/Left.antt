-- What a call answers and leaves where its answer is a number alone: 0, or a number of document 01's table.
use Rattle.std.specs.Prelude.{ℕ}
use Rattle.answer.specs.Answer.{Answer, given, refused}

-- an answer, and what a call leaves in what it was lent
pub record Left (A : Type 0) : Type 0 where
  pub answer : ℕ
  pub now : A

abbrev pub left : {A : Type 0} → ℕ → A → Left A
left answer now = record { answer = answer; now = now }

-- "A refusal changes no lent buffer": a value is left as f says, and a refusal leaves what was there
abbrev pub leaves : {A B : Type 0} → Answer A → (A → B) → B → Left B
leaves (given a) f before = left 0 (f a)
leaves (refused number) f before = left number before
