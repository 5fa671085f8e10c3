-- Demand 3 (document 00, 3; document 01, "Choosing and counting issues"): a single claim about a list of runs.
use Rattle.std.specs.Prelude.{ℕ, ◌+◌, ◌/◌, ◌≤◌, Bool, true, cond, List, [], ◌∷◌, ◌++◌, ◌≡◌, eqb, length, take}
use Rattle.machine.specs.State.{State}
use Rattle.bits.specs.Bit.{is_set}
use Rattle.machine.specs.Machine.{count_threads}
use Rattle.machine.specs.Scheduler.{runs}
use Rattle.machine.specs.WellFormed.{well_formed}
pub use Rattle.interpreter.specs.Choosing.{Issue}
use Rattle.interpreter.specs.Run.{Outcome, run_issues, run_reached, run_answer, run}
use Rattle.interpreter.specs.Types.{Machine}

-- a run call of the list: "Program and budget may differ from call to call", and what it handed back and left
pub record Call : Type 0 where
  pub program : List ℕ
  pub budget : ℕ
  pub outcome : Outcome

-- Each call kept what run's contract promises. "The rest of the machine a call gets as the last one handed it back or left it"
abbrev pub Session : List Call → State → Type 0
Session [] s = Unit {0}
Session (c ∷ cs) s = (c.outcome ≡ run c.program c.budget s) × Session cs c.outcome.left

-- "Write down the issues of the whole list one after the other, as the rules in 2 make them, not by a tally the runner keeps."
-- "The next run begins from the state reached, with its own program and budget."
unfoldable pub written : List Call → State → List Issue
written [] s = []
written (c ∷ cs) s = run_issues c.program c.budget s ++ written cs (run_reached c.program c.budget s)

-- "The number a run reports is the number of issues it added, its answer is the one the rules for choosing give there, or the
-- table's number, and the machine it hands back or leaves is the state reached."
pub record Reported (c : Call) (s : State) : Type 0 where
  pub issues : c.outcome.issues ≡ length (run_issues c.program c.budget s)
  pub answer : c.outcome.answer ≡ run_answer c.program c.budget s
  pub left : c.outcome.left ≡ run_reached c.program c.budget s

-- of each call, from the state that the issues written down before it reach
abbrev pub Reports : List Call → State → Type 0
Reports [] s = Unit {0}
Reports (c ∷ cs) s = Reported c s × Reports cs (run_reached c.program c.budget s)

-- "Running before an issue means status running in the state written for it."
abbrev pub RunningBefore : ℕ → Issue → Type 0
RunningBefore t i = runs i.before.machine t ≡ true

-- "a thread that was running before each of them"
abbrev pub RunningBeforeEach : ℕ → List Issue → Type 0
RunningBeforeEach t [] = Unit {0}
RunningBeforeEach t (i ∷ is) = RunningBefore t i × RunningBeforeEach t is

-- how many of some issues are a thread's
abbrev pub made : ℕ → List Issue → ℕ
made t [] = 0
made t (i ∷ is) = made t is + cond (eqb i.thread t) 1 0

-- "E is the number of enabled bits"
abbrev pub is_enabled : ℕ → ℕ → Bool
is_enabled mask t = is_set mask t

abbrev pub enabled_threads : Machine → ℕ
enabled_threads m = count_threads (is_enabled m.enabled)

-- what is demanded of the turns in some issues, written down one after the other, where e threads are enabled
pub record Fair (all : List Issue) (e : ℕ) : Type 0 where
  -- "A thread that is running before one of these issues is issued within E issues, that one counted first, if so many are left."
  pub within : (before : List Issue) (i : Issue) (after : List Issue) → all ≡ before ++ i ∷ after
      → (t : ℕ) → RunningBefore t i → e ≤ length (i ∷ after) → 1 ≤ made t (take e (i ∷ after))
  -- "In any W issues in a row, a thread that was running before each of them makes at least W divided by E, rounded down."
  pub share : (before row after : List Issue) → all ≡ before ++ (row ++ after)
      → (t : ℕ) → RunningBeforeEach t row → length row / e ≤ made t row
  -- "Two such threads differ by at most one."
  pub even : (before row after : List Issue) → all ≡ before ++ (row ++ after)
      → (t u : ℕ) → RunningBeforeEach t row → RunningBeforeEach u row → (made t row ≤ made u row + 1) × (made u row ≤ made t row + 1)

-- what is demanded of a list of calls from a state, of whose threads e are enabled
pub record Demand (calls : List Call) (s : State) (e : ℕ) : Type 0 where
  -- "The number of issues each call reports is the number written down for it, and the machine it hands back or leaves is the one
  -- these issues reach."
  pub reports : Reports calls s
  pub turns : Fair (written calls s) e

-- "This holds for every list of run calls from a well-formed state, refused calls included."
-- "The list begins with any record that is well formed with its numbers in range, and any register file and memory, of any length."
abbrev pub DemandHolds : Type 0
DemandHolds = (calls : List Call) (s : State) → well_formed s.machine ≡ true → Session calls s → Demand calls s (enabled_threads s.machine)
