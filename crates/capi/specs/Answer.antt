-- What a call answers: 0, or a number of document 01's table.
use Rattle.std.specs.Prelude.{ℕ}
use Rattle.answer.specs.Answer.{Answer, given, refused}
use Rattle.interpreter.specs.Answer.{Ending, stopped, stuck, spent}

abbrev pub number_of : {A : Type 0} → Answer A → ℕ
number_of (given a) = 0
number_of (refused number) = number

-- how a run ended: 0 refused, 1 stopped, 2 stuck, 3 spent
abbrev pub ending_of : Answer Ending → ℕ
ending_of (given stopped) = 1
ending_of (given stuck) = 2
ending_of (given spent) = 3
ending_of (refused number) = 0
