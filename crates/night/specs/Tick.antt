-- What a call hands back and leaves (document 02, T-14).
use Rattle.std.specs.Prelude.{ℕ, Bool, List, [], Result, Ok, Err, Some}
use Rattle.answer.specs.Answer.{Answer, given, refused}
use Rattle.answer.specs.Refusal.{row_of, refused_or}
use Rattle.machine.specs.State.{State, state}
use Rattle.interpreter.specs.Demand.{Issue}
use Rattle.interpreter.specs.Run.{run_issues, run_reached, Machine, Refusal}
use Rattle.night.specs.Answer.{Report, report}
use Rattle.night.specs.Bytes.{with_reading, relays_in}
use Rattle.night.specs.Clock.{skipped}
use Rattle.night.specs.Refusal.{tick_number}
use Rattle.night.specs.Types.{Kept, Tick}

-- an answer, the minute kept for the next call, and the machine handed back or left
pub record Outcome : Type 0 where
  pub answer : Answer Report
  pub kept : Kept
  pub left : State

-- by the code's result: of a call that is not refused
abbrev pub tick_outcome : Tick → List ℕ → List ℕ → Outcome
tick_outcome r registers memory =
    record { answer = given (report r.minute r.skipped r.relays); kept = Some r.minute; left = state r.machine registers memory }

-- and of a call with the record m and a minute kept, which the caller still has where it is refused
abbrev pub outcome : Result Tick Refusal → Kept → Machine → List ℕ → List ℕ → Outcome
outcome (Ok r) kept m registers memory = tick_outcome r registers memory
outcome (Err refusal) kept m registers memory =
    record { answer = refused (row_of refusal); kept = kept; left = state m registers memory }

-- "runs 4,096 issues"
abbrev pub issues_per_minute : ℕ
issues_per_minute = 4096

-- Of a call that is not refused.

-- "Each local minute it puts the minute of the day in memory bytes 0 to 3 and the minutes skipped since the last call in bytes 4 to 7":
-- the state that its run begins from
unfoldable pub run_from : State → Kept → ℕ → Bool → State
run_from s kept minute marked = state s.machine s.registers (with_reading s.memory minute (skipped kept minute marked))

-- "runs 4,096 issues of the small board": the state that they reach
unfoldable pub run_to : List ℕ → State → Kept → ℕ → Bool → State
run_to p s kept minute marked = run_reached p issues_per_minute (run_from s kept minute marked)

-- "and takes the low 16 bits of the word at byte 64 as relays"
unfoldable pub accepted : List ℕ → State → Kept → ℕ → Bool → Outcome
accepted p s kept minute marked =
    record {
      answer = given (report minute (skipped kept minute marked) (relays_in (run_to p s kept minute marked).memory));
      kept = Some minute;
      left = run_to p s kept minute marked;
    }

-- Of any call.

-- "after any of them memory and kept minute stay"; document 01: "A refusal changes no lent buffer and hands back the record it got"
unfoldable pub tick : List ℕ → State → Kept → ℕ → Bool → Outcome
tick p s kept minute marked =
    refused_or (tick_number p s kept minute)
    (λ number. record { answer = refused number; kept = kept; left = s })
    (accepted p s kept minute marked)

-- the issues that it makes, as demand 3 writes them down; "A run to which the table gives a number adds none and changes nothing."
unfoldable pub tick_issues : List ℕ → State → Kept → ℕ → Bool → List Issue
tick_issues p s kept minute marked =
    refused_or (tick_number p s kept minute) (λ number. []) (run_issues p issues_per_minute (run_from s kept minute marked))
