-- What a traced run hands back and leaves (02, T-03).
use Rattle.std.specs.Prelude.{Result, Ok, Err, ℕ, Bool, true, false, cond, List, length, nat_lt}
use Rattle.interpreter.specs.Run.{Outcome, run_outcome, outcome, run_issues, run}
use Rattle.machine.specs.State.{State}
use Rattle.trace.specs.Rows.{rows_of, onto}
use Rattle.trace.specs.Types.{Row, Page, Machine, Refusal, Run, Stop, Stopped, Stuck, Spent}

-- "the smaller of the budget and the list's length"
unfoldable pub least : ℕ → ℕ → ℕ
least budget room = cond (nat_lt room budget) room budget

-- what a run hands back and leaves, and the list of rows
pub record TracedRun : Type 0 where
  pub run : Outcome
  pub rows : List Row

-- by the code's result: of a run that is not refused
abbrev pub traced_run : Run → List ℕ → List ℕ → List Row → TracedRun
traced_run r registers memory rows = record { run = run_outcome r registers memory; rows = rows }

-- of a call with the record m, which the caller still has where it is refused
abbrev pub traced : Result Run Refusal → Machine → List ℕ → List ℕ → List Row → TracedRun
traced r m registers memory rows = record { run = outcome r m registers memory; rows = rows }

-- and of one that hands back the list by value: where it is refused, the caller still has the one lent
abbrev pub traced_page : Result Page Refusal → Machine → List ℕ → List ℕ → List Row → TracedRun
traced_page (Ok page) m registers memory lent = traced_run page.run registers memory page.rows
traced_page (Err refusal) m registers memory lent = traced (Err refusal) m registers memory lent

-- "In all else it equals the plain run with the smaller of the budget and the list's length."
-- A refused run has no issue written down, so that its rows are those that it was lent.
unfoldable pub run_traced : List ℕ → ℕ → State → List Row → TracedRun
run_traced p budget s rows =
    record {
      run = run p (least budget (length rows)) s;
      rows = onto (rows_of p (run_issues p (least budget (length rows)) s)) rows;
    }

abbrev pub is_spent : Stop → Bool
is_spent Stopped = false
is_spent Stuck = false
is_spent Spent = true
