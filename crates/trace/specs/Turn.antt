-- What a turn of the traced run's loop promises.
use Rattle.std.specs.Prelude.{◌≡◌, ℕ, List}
use Rattle.execution.specs.Registers.{program_counter}
use Rattle.interpreter.specs.Run.{run_outcome, run}
use Rattle.machine.specs.Machine.{status_at}
use Rattle.machine.specs.Scheduler.{choose}
use Rattle.machine.specs.State.{state}
use Rattle.trace.specs.Joining.{continued_run}
use Rattle.trace.specs.Rows.{word_at}
use Rattle.trace.specs.Types.{Row, Step, Run, Machine}

-- the thread that is issued next
abbrev pub next_thread : Machine → ℕ
next_thread m = (choose m).machine.last

-- the row that is written when a thread of a state has been issued and a record reached
abbrev pub row_after : List ℕ → List ℕ → ℕ → Machine → Row
row_after p registers t reached =
    record {
      thread = t;
      address = program_counter registers t;
      word = word_at p (program_counter registers t);
      status = status_at reached t;
    }

-- one issue more, by a run with a budget of one
pub record Advanced (p : List ℕ) (from : Run) (registers memory : List ℕ) (r : Step) (left-registers left-memory : List ℕ) : Type 0
  where
    pub one : Run
    pub ran : run_outcome one left-registers left-memory ≡ run p 1 (state from.machine registers memory)
    pub next : r.run ≡ continued_run from one
    pub row : r.row ≡ row_after p registers (next_thread from.machine) one.machine
