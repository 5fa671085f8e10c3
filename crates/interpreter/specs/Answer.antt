-- How a run ends, and what a call answers, as values and numbers of document 01.
use Rattle.std.specs.Prelude.{Result, Ok, Err}
use Rattle.answer.specs.Answer.{Answer, given, refused}
use Rattle.answer.specs.declared.refusal.Refusal.{Refusal}
use Rattle.answer.specs.Refusal.{row_of}
use Rattle.interpreter.specs.Types.{Stop, Stopped, Stuck, Spent, Run}

-- how a run that is not refused ends: "stuck if one waits, else stopped", or "spent"
pub data Ending : Type 0 where
  stopped : Ending
  stuck : Ending
  spent : Ending

-- the same as the code names it
abbrev pub ending_of : Stop → Ending
ending_of Stopped = stopped
ending_of Stuck = stuck
ending_of Spent = spent

abbrev pub answered : Result Run Refusal → Answer Ending
answered (Ok r) = given (ending_of r.stop)
answered (Err refusal) = refused (row_of refusal)
