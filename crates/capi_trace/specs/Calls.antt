-- What the traced run answers and leaves, with the machine record as bytes and the rows as numbers.
use Rattle.std.specs.Prelude.{ℕ, ◌/◌, List, length}
use Rattle.answer.specs.Refusal.{refused_or}
use Rattle.capi.specs.Refusal.{run_number}
use Rattle.capi.specs.Runs.{Ran, ran, no_result, done}
use Rattle.image.specs.Image.{machine_in}
use Rattle.image.specs.Opening.{no_blocks}
use Rattle.interpreter.specs.Run.{Outcome, run_issues, run}
use Rattle.machine.specs.State.{State, state}
use Rattle.trace.specs.Rows.{rows_of, onto}
use Rattle.trace.specs.Traced.{least}
use Rattle.capi_trace.specs.Numbers.{all_numbers}

-- a run, and the numbers of its rows put onto a list
pub record Filled : Type 0 where
  pub run : Outcome
  pub numbers : List ℕ

abbrev pub filled : Outcome → List ℕ → Filled
filled o numbers = record { run = o; numbers = numbers }

unfoldable pub filling : List ℕ → ℕ → State → List ℕ → Filled
filling p limit s numbers = filled (run p limit s) (onto (all_numbers (rows_of p (run_issues p limit s))) numbers)

pub record TracedRan : Type 0 where
  pub run : Ran
  pub rows : List ℕ

abbrev pub traced_ran : Ran → List ℕ → TracedRan
traced_ran r rows = record { run = r; rows = rows }

abbrev pub trace_done : Filled → TracedRan
trace_done f = traced_ran (done f.run) f.numbers

-- "In all else it equals the plain run with the smaller of the budget and the list's length": a list of numbers holds a row for each seven,
-- and what is left over keeps its content. A refusal changes no lent list.
unfoldable pub run_traced_call : List ℕ → ℕ → List ℕ → List ℕ → List ℕ → List ℕ → TracedRan
run_traced_call program budget registers memory opening rows =
    refused_or (run_number program registers memory opening)
    (λ number. traced_ran (ran number no_result registers memory opening) rows)
    (trace_done (filling program (least budget (length rows / 7)) (state (machine_in no_blocks opening) registers memory) rows))
