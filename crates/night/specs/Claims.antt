-- What is proved of the definitions.
use Rattle.std.specs.Prelude.{ℕ, ◌+◌, ◌%◌, ◌≤◌, Bool, true, false, List, [], ◌∷◌, ◌++◌, ◌≡◌, length, Some}
use Rattle.std.proofs.Math.Option.{none}
use Rattle.machine.specs.State.{State}
use Rattle.machine.specs.WellFormed.{well_formed}
use Rattle.interpreter.specs.Demand.{Issue, RunningBeforeEach, made, enabled_threads, Fair}
use Rattle.interpreter.specs.Run.{number}
use Rattle.night.specs.Clock.{day_minutes, skipped}
use Rattle.night.specs.Refusal.{tick_number}
use Rattle.night.specs.Tick.{Outcome, issues_per_minute, run_from, tick, tick_issues}
use Rattle.night.specs.Types.{Kept}

-- The skipped minutes.

-- from one reading, one minute more than were skipped leads to the other
pub record Between (kept minute : ℕ) : Type 0 where
  pub reaches : (kept + (skipped (Some kept) minute false + 1)) % day_minutes ≡ minute
  -- and those before it are neither of the two readings
  pub strictly : (i : ℕ) → 1 ≤ i → i ≤ skipped (Some kept) minute false
      → ((kept + i) % day_minutes ≡ minute → ⊥) × ((kept + i) % day_minutes ≡ kept → ⊥)

-- "Skipped minutes lie strictly between two readings, forward round midnight"
abbrev pub SkippedBetween : Type 0
SkippedBetween = (kept minute : ℕ) → kept ≤ 1439 → minute ≤ 1439 → (kept ≡ minute → ⊥) → Between kept minute

-- The run.

-- a call that is not refused is a run that is not refused: what is written before it changes nothing that the table judges
abbrev pub RunTaken : Type 0
RunTaken = (p : List ℕ) (s : State) (kept : Kept) (minute : ℕ) (marked : Bool) → tick_number p s kept minute ≡ none
    → number p (run_from s kept minute marked) ≡ none

-- Turns.

-- "If all 4,096 are made, every thread running before each of them gets at least 512."
abbrev pub EnoughTurns : Type 0
EnoughTurns = (p : List ℕ) (s : State) (kept : Kept) (minute : ℕ) (marked : Bool)
    → length (tick_issues p s kept minute marked) ≡ issues_per_minute
    → (t : ℕ) → RunningBeforeEach t (tick_issues p s kept minute marked) → 512 ≤ made t (tick_issues p s kept minute marked)

-- A night: calls one after the other.

-- a call, and what it handed back and left
pub record Call : Type 0 where
  pub program : List ℕ
  pub minute : ℕ
  pub marked : Bool
  pub outcome : Outcome

-- Each call kept what its contract promises, from the machine and the kept minute that the last one handed back or left.
abbrev pub Night : List Call → State → Kept → Type 0
Night [] s kept = Unit {0}
Night (c ∷ cs) s kept =
    (c.outcome ≡ tick c.program s kept c.minute c.marked) × Night cs c.outcome.left c.outcome.kept

-- The state and the kept minute that a call reaches are those of its definition, and not what a tally says.

-- "Write down the issues of the whole list one after the other" (document 00, 3), of the whole night
unfoldable pub night_issues : List Call → State → Kept → List Issue
night_issues [] s kept = []
night_issues (c ∷ cs) s kept =
    let next = tick c.program s kept c.minute c.marked in
    tick_issues c.program s kept c.minute c.marked ++ night_issues cs next.left next.kept

-- each call answers, hands back and leaves what the definition says, from where the calls before it lead
abbrev pub Reports : List Call → State → Kept → Type 0
Reports [] s kept = Unit {0}
Reports (c ∷ cs) s kept =
    let next = tick c.program s kept c.minute c.marked in
    (c.outcome ≡ next) × Reports cs next.left next.kept

-- what is so of a night's calls from a state, of whose threads e are enabled
pub record FairNight (calls : List Call) (s : State) (kept : Kept) (e : ℕ) : Type 0 where
  pub reports : Reports calls s kept
  pub turns : Fair (night_issues calls s kept) e

-- Over any list of minutes, refused ones among them, the turns are fair. Bytes 0 to 7 of memory are written between the runs, so that
-- they are no list of runs in demand 3's sense ("nobody else writes it meanwhile"); the record passes from run to run all the same.
abbrev pub NightFair : Type 0
NightFair = (calls : List Call) (s : State) (kept : Kept) → well_formed s.machine ≡ true → Night calls s kept
    → FairNight calls s kept (enabled_threads s.machine)
