-- What a page of rows does to the list of numbers.
use Rattle.std.specs.Prelude.{ℕ, List, ◌≡◌, length, take}
use Rattle.interpreter.specs.declared.outcome.Run.{Run}
use Rattle.machine.specs.State.{state}
use Rattle.trace.specs.Joining.{continued_run}
use Rattle.trace.specs.Traced.{traced_run, run_traced}
use Rattle.trace.specs.declared.row.Row.{Row}
use Rattle.capi_trace.specs.Numbers.{put_rows}

-- one page more of the run so far: a traced run into a list of 64 rows, and those that it made put behind the rows before
pub record Paged (p : List ℕ) (so_far : Run) (made left : ℕ) (registers memory numbers : List ℕ) (r : Run)
    (registers' memory' numbers' : List ℕ) : Type 0 where
  pub page : Run
  pub blank : List Row
  pub rows : List Row
  pub blanks : length blank ≡ 64
  pub ran : traced_run page registers' memory' rows ≡ run_traced p left (state so_far.machine registers memory) blank
  pub next : r ≡ continued_run so_far page
  pub put : numbers' ≡ put_rows numbers made (take page.issues rows)
