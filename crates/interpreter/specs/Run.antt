-- What a run hands back and leaves (document 01, "Numbers given back" and "Choosing and counting issues").
use Rattle.std.specs.Prelude.{Result, Ok, Err, ℕ, ◌+◌, List, [], length}
use Rattle.std.proofs.Math.Option.{Option}
use Rattle.answer.specs.Answer.{Answer, given, refused}
use Rattle.machine.specs.State.{State, state}
use Rattle.interpreter.specs.Answer.{Ending, ending_of}
use Rattle.interpreter.specs.Choosing.{Issue, issues, reached, ending_at, look, looks_for}
pub use Rattle.answer.specs.declared.refusal.Refusal.{Refusal}
use Rattle.answer.specs.Refusal.{row_of, refused_or}
use Rattle.interpreter.specs.Refusal.{run_number}
pub use Rattle.interpreter.specs.Types.{Machine, Run}

-- the number that the table gives a run of a program from a state
abbrev pub number : List ℕ → State → Option ℕ
number p s = run_number (length p) (length s.registers) (length s.memory) s.machine

-- Of a run of a program, with a budget, from a state.

-- "A run to which the table gives a number adds none and changes nothing." "A refused run reports 0 issues"
unfoldable pub run_issues : List ℕ → ℕ → State → List Issue
run_issues p b s = refused_or (number p s) (λ n. []) (issues p b s)

-- "A refusal changes no lent buffer and hands back the record it got"
unfoldable pub run_reached : List ℕ → ℕ → State → State
run_reached p b s = refused_or (number p s) (λ n. s) (reached p b s)

-- "its answer is the one the rules for choosing give there, or the table's number"
unfoldable pub run_answer : List ℕ → ℕ → State → Answer Ending
run_answer p b s = refused_or (number p s) refused (given (ending_at (reached p b s)))

-- "The run reports how many entries it looked at" (02, T-13): for each issue written down, and in the state reached, where "for a search
-- that finds none" it is 8, and "the final look before spent counts its distance too"; "a refused call reports 0"
unfoldable pub run_looks : List ℕ → ℕ → State → ℕ
run_looks p b s = refused_or (number p s) (λ n. 0) (looks_for (run_issues p b s) + look (run_reached p b s))

-- an answer, a number of issues, how many entries were looked at, and the machine handed back or left
pub record Outcome : Type 0 where
  pub answer : Answer Ending
  pub issues : ℕ
  pub looks : ℕ
  pub left : State

-- by the code's result: of a run that is not refused
abbrev pub run_outcome : Run → List ℕ → List ℕ → Outcome
run_outcome r registers memory =
    record { answer = given (ending_of r.stop); issues = r.issues; looks = r.looks; left = state r.machine registers memory }

-- and of a call with the record m, which the caller still has where it is refused
abbrev pub outcome : Result Run Refusal → Machine → List ℕ → List ℕ → Outcome
outcome (Ok r) m registers memory = run_outcome r registers memory
outcome (Err refusal) m registers memory =
    record { answer = refused (row_of refusal); issues = 0; looks = 0; left = state m registers memory }

-- "The number a run reports is the number of issues it added, its answer is the one the rules for choosing give there, or the
-- table's number, and the machine it hands back or leaves is the state reached."
unfoldable pub run : List ℕ → ℕ → State → Outcome
run p b s =
    record { answer = run_answer p b s; issues = length (run_issues p b s); looks = run_looks p b s; left = run_reached p b s }

-- the same of a run that is not refused
unfoldable pub accepted_run : List ℕ → ℕ → State → Outcome
accepted_run p b s =
    record {
      answer = given (ending_at (reached p b s));
      issues = length (issues p b s);
      looks = looks_for (issues p b s) + look (reached p b s);
      left = reached p b s;
    }
