-- The issues of a run, written down one after the other (document 01, "Choosing and counting issues").
use Rattle.std.specs.Prelude.{ℕ, zero, suc, ◌+◌, cond, List, [], ◌∷◌, Some, None}
use Rattle.execution.specs.Issue.{perform}
use Rattle.machine.specs.Machine.{turns_at}
use Rattle.machine.specs.State.{State, state, counted_in}
use Rattle.machine.specs.Scheduler.{Choice, choice, with_last, some_waits}
use Rattle.interpreter.specs.Answer.{Ending, stopped, stuck, spent}
use Rattle.interpreter.specs.Types.{Machine}

-- "each is written as the state before it and the thread issued"
pub record Issue : Type 0 where
  pub before : State
  pub thread : ℕ

-- the thread "is issued, once, and becomes "last"": it is told how many turns it had before
abbrev pub performed : List ℕ → State → ℕ → State
performed p s t = perform p (state (with_last s.machine t) s.registers s.memory) t (turns_at s.machine t)

-- "Each thread entry gains its issues since start, trapping ones too" (02, T-05): here, and nowhere else, they are counted
unfoldable pub issued : List ℕ → State → ℕ → State
issued p s t = counted_in (performed p s t) t

-- by "the first running thread after "last"", if a thread is running
abbrev pub if_chosen : {A : Type 0} → Choice → (ℕ → A) → A → A
if_chosen (Some next) f x = f next.thread
if_chosen None f x = x

-- "Any other adds its issues in order, by the rules for choosing and for one issue, until those rules give an answer":
-- the issues from a state, with so many left in the budget. "A trapping issue counts."
unfoldable pub issues : List ℕ → ℕ → State → List Issue
issues p zero s = []
issues p (suc left) s = if_chosen (choice s.machine) (λ t. record { before = s; thread = t } ∷ issues p left (issued p s t)) []

-- "the machine it hands back or leaves is the one these issues reach": where issues that were written down lead, from s if there are none
unfoldable pub reached_by : List ℕ → State → List Issue → State
reached_by p s [] = s
reached_by p s (i ∷ is) = reached_by p (issued p i.before i.thread) is

-- "the state reached"
unfoldable pub reached : List ℕ → ℕ → State → State
reached p left s = reached_by p s (issues p left s)

-- "if no thread is running, the run answers stuck if one waits, else stopped."
unfoldable pub idle_ending : Machine → Ending
idle_ending m = cond (some_waits m) stuck stopped

-- "Otherwise, if the issues made equal the budget, it answers spent."
-- Where a thread is running in the state reached, they do: Claims has it as `SpendsBudget`.
unfoldable pub ending_at : State → Ending
ending_at s = if_chosen (choice s.machine) (λ t. spent) (idle_ending s.machine)

-- How far the chooser looks (02, T-13): "for an issue the distance from "last" round to the thread chosen, 1 to 8; for a search that
-- finds none, 8". That a distance is 1 to 8, and no running thread nearer, machine's claims have as `Chooses`.
abbrev pub entries_to : Choice → ℕ
entries_to (Some next) = next.distance
entries_to None = 8

-- the entries looked at to choose in a state
unfoldable pub look : State → ℕ
look s = entries_to (choice s.machine)

-- and for issues that were written down, each in the state before it
unfoldable pub looks_for : List Issue → ℕ
looks_for [] = 0
looks_for (i ∷ is) = look i.before + looks_for is
