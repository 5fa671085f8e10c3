-- What is proved of the definitions, for other crates to cite.
use Rattle.std.specs.Prelude.{◌≡◌, ℕ, ◌+◌, ◌-◌, ◌^◌, ◌<◌, List, ◌++◌, map, length, drop, ◌≢◌}
use Rattle.std.proofs.Math.Option.{none, some}
use Rattle.answer.specs.Answer.{given}
use Rattle.execution.specs.Registers.{program_counter}
use Rattle.interpreter.specs.Answer.{spent}
use Rattle.interpreter.specs.Choosing.{Issue}
use Rattle.interpreter.specs.Run.{run_outcome, number, run_issues, run_reached, run_answer, run}
use Rattle.machine.specs.State.{State}
use Rattle.trace.specs.Joining.{continued_run}
use Rattle.trace.specs.Rows.{rows_of}
use Rattle.trace.specs.Traced.{least, run_traced}
use Rattle.trace.specs.Types.{Row, Run}

-- Of a run of a program p from a state s.

-- two runs, one after the other, are continued as the one run with both budgets hands back
abbrev pub Continues : Type 0
Continues = (p : List ℕ) (n m : ℕ) (s : State) (first second : Run) (r d r' d' : List ℕ) → n + m < 2 ^ 32 → number p s ≡ none
    → run_outcome first r d ≡ run p n s → run_outcome second r' d' ≡ run p m (run_reached p n s)
    → run_outcome (continued_run first second) r' d' ≡ run p (n + m) s

-- a run that does not answer spent is the same with a greater budget
abbrev pub EndsForGood : Type 0
EndsForGood = (p : List ℕ) (n k : ℕ) (s : State) → (run_answer p n s ≢ given spent)
    → (run p (n + k) s ≡ run p n s) × (run_issues p (n + k) s ≡ run_issues p n s)

-- the rows' threads and addresses are those of the issues written down
pub record RowsTell (p : List ℕ) (is : List Issue) : Type 0 where
  pub threads : map (λ (r : Row). r.thread) (rows_of p is) ≡ map (λ (i : Issue). i.thread) is
  pub addresses : map (λ (r : Row). r.address) (rows_of p is) ≡ map (λ (i : Issue). program_counter i.before.registers i.thread) is

abbrev pub RowsTold : Type 0
RowsTold = (p : List ℕ) (is : List Issue) → RowsTell p is

-- "Rows after the last issue keep their content.", and a refused call leaves every row: the list stays as long as it was, what stands
-- behind as many rows as issues were made is what stood there, and with a number of the table it is the list that was lent
pub record Keeps (p : List ℕ) (b : ℕ) (s : State) (lent : List Row) : Type 0 where
  pub long : length (run_traced p b s lent).rows ≡ length lent
  pub behind : drop (run_traced p b s lent).run.issues (run_traced p b s lent).rows ≡ drop (run_traced p b s lent).run.issues lent
  pub whole : (n : ℕ) → number p s ≡ some n → (run_traced p b s lent).rows ≡ lent

abbrev pub RowsKept : Type 0
RowsKept = (p : List ℕ) (b : ℕ) (s : State) (lent : List Row) → Keeps p b s lent

-- a traced run whose list is cut into two is two traced runs, the second with what the first left of the budget, from where it ended:
-- in all but the looks, since both look at the state between them (02, T-13)
pub record Cut (p : List ℕ) (b : ℕ) (s : State) (first second : List Row) : Type 0 where
  pub rest : ℕ
  pub budget : rest ≡ b - least b (length first)
  pub rows : (run_traced p b s (first ++ second)).rows
      ≡ (run_traced p b s first).rows ++ (run_traced p rest (run_traced p b s first).run.left second).rows
  pub answer : (run_traced p b s (first ++ second)).run.answer ≡ (run_traced p rest (run_traced p b s first).run.left second).run.answer
  pub issues : (run_traced p b s (first ++ second)).run.issues
      ≡ (run_traced p b s first).run.issues + (run_traced p rest (run_traced p b s first).run.left second).run.issues
  pub left : (run_traced p b s (first ++ second)).run.left ≡ (run_traced p rest (run_traced p b s first).run.left second).run.left

abbrev pub Pages : Type 0
Pages = (p : List ℕ) (b : ℕ) (s : State) (first second : List Row) → Cut p b s first second
