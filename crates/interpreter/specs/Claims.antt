-- What is proved of the definitions, for other crates to cite.
use Rattle.std.specs.Prelude.{ℕ, ◌+◌, ◌*◌, ◌%◌, ◌^◌, ◌<◌, ◌≤◌, Bool, true, false, List, [], ◌∷◌, ◌++◌, ◌↔◌, ◌≡◌, length, get_or}
use Rattle.std.proofs.Math.Option.{Option, none, some}
use Rattle.answer.specs.Answer.{Answer, given, refused}
use Rattle.answer.specs.Refusal.{register_words}
use Rattle.machine.specs.Machine.{turns_at}
use Rattle.machine.specs.State.{State, scalar_index, lane_mask_register}
use Rattle.machine.specs.Scheduler.{runs, waits}
use Rattle.machine.specs.WellFormed.{well_formed}
use Rattle.interpreter.specs.Answer.{Ending, stopped, stuck, spent}
use Rattle.interpreter.specs.Choosing.{Issue, look}
use Rattle.interpreter.specs.Demand.{Call, Session, written, Reported, made, Fair, enabled_threads}
use Rattle.interpreter.specs.Run.{number, run_issues, run_reached, run_answer, run_looks, run}
use Rattle.interpreter.specs.Start.{start}
use Rattle.interpreter.specs.Types.{Machine}

-- A start.

-- a start that is not refused makes a well-formed record with the mask's threads enabled
abbrev pub Starts : Type 0
Starts = (mask : ℕ) (regs : List ℕ) → (start mask regs).answer ≡ given tt
    → (well_formed (start mask regs).machine ≡ true) × ((start mask regs).machine.enabled ≡ mask)

-- and a register file in which every s59 is 0xFFFF, and every other word 0
pub record StartRegister (mask : ℕ) (regs : List ℕ) : Type 0 where
  pub size : length (start mask regs).registers ≡ register_words
  pub masks : (t : ℕ) → t < 8 → get_or (start mask regs).registers (scalar_index t lane_mask_register) 0 ≡ 0xFFFF
  pub zeros : (i : ℕ) → ((t : ℕ) → t < 8 → i ≡ scalar_index t lane_mask_register → ⊥) → get_or (start mask regs).registers i 0 ≡ 0

abbrev pub StartRegisters : Type 0
StartRegisters = (mask : ℕ) (regs : List ℕ) → (start mask regs).answer ≡ given tt → StartRegister mask regs

-- and no turn is counted yet; nor is one in the record that a refused start hands back
abbrev pub StartsUncounted : Type 0
StartsUncounted = (mask : ℕ) (regs : List ℕ) (t : ℕ) → turns_at (start mask regs).machine t ≡ 0

-- A run of a program p, with a budget b, from a state s.

-- what `run` says of a call, part by part: whatever the record
abbrev pub RunsReport : Type 0
RunsReport = (c : Call) (s : State) → c.outcome ≡ run c.program c.budget s → Reported c s

-- a well-formed record stays so
abbrev pub StaysWellFormed : Type 0
StaysWellFormed = (p : List ℕ) (b : ℕ) (s : State) → well_formed s.machine ≡ true → well_formed (run_reached p b s).machine ≡ true

-- "E is the number of enabled bits; no run changes them."
abbrev pub MaskStays : Type 0
MaskStays = (p : List ℕ) (b : ℕ) (s : State) → (run_reached p b s).machine.enabled ≡ s.machine.enabled

-- and in a well-formed record there is one, so that W divided by E means something
abbrev pub SomeEnabled : Type 0
SomeEnabled = (m : Machine) → well_formed m ≡ true → 1 ≤ enabled_threads m

-- and never more than the eight threads
abbrev pub EightAtMost : Type 0
EightAtMost = (m : Machine) → enabled_threads m ≤ 8

-- no lent buffer changes its length
abbrev pub LengthsStay : Type 0
LengthsStay = (p : List ℕ) (b : ℕ) (s : State)
    → (length (run_reached p b s).registers ≡ length s.registers) × (length (run_reached p b s).memory ≡ length s.memory)

-- it makes at most as many issues as its budget, and as many if it answers spent
abbrev pub WithinBudget : Type 0
WithinBudget = (p : List ℕ) (b : ℕ) (s : State) → length (run_issues p b s) ≤ b

abbrev pub SpendsBudget : Type 0
SpendsBudget = (p : List ℕ) (b : ℕ) (s : State) → run_answer p b s ≡ given spent → length (run_issues p b s) ≡ b

-- no thread of a record passes a test, or one does
abbrev pub NoThread : (ℕ → Bool) → Type 0
NoThread test = (t : ℕ) → t < 8 → test t ≡ false

abbrev pub SomeThread : (ℕ → Bool) → Type 0
SomeThread test = (t : ℕ) × (t < 8) × (test t ≡ true)

-- what a run answers that reaches a record, by who runs and who waits there
pub record EndsBy (m : Machine) (answer : Answer Ending) : Type 0 where
  -- "if no thread is running, the run answers stuck if one waits, else stopped."
  pub stuck-exactly : (answer ≡ given stuck) ↔ (NoThread (runs m) × SomeThread (waits m))
  pub stopped-exactly : (answer ≡ given stopped) ↔ (NoThread (runs m) × NoThread (waits m))
  -- "Otherwise, if the issues made equal the budget, it answers spent."
  pub spent-exactly : (answer ≡ given spent) ↔ SomeThread (runs m)

abbrev pub EndsByRecord : Type 0
EndsByRecord = (p : List ℕ) (b : ℕ) (s : State) → number p s ≡ none → EndsBy (run_reached p b s).machine (run_answer p b s)

-- two runs of a program, one after the other with budgets n and m, are one with the budget n + m
pub record Composed (p : List ℕ) (n m : ℕ) (s : State) : Type 0 where
  pub issues : run_issues p (n + m) s ≡ run_issues p n s ++ run_issues p m (run_reached p n s)
  pub reached : run_reached p (n + m) s ≡ run_reached p m (run_reached p n s)
  pub answer : run_answer p (n + m) s ≡ run_answer p m (run_reached p n s)
  -- save that both look at the state between them, as a run with no budget does there
  pub looks : run_looks p (n + m) s + run_looks p 0 (run_reached p n s) ≡ run_looks p n s + run_looks p m (run_reached p n s)

abbrev pub Composes : Type 0
Composes = (p : List ℕ) (n m : ℕ) (s : State) → Composed p n m s

-- What a refusal tells, and a run with no budget.

-- the number in an answer, if it is one
abbrev pub number_in : {A : Type 0} → Answer A → Option ℕ
number_in (given a) = none
number_in (refused n) = some n

-- a run answers a number exactly if the table gives it one, and then that one: whatever its budget
abbrev pub AnswersNumber : Type 0
AnswersNumber = (p : List ℕ) (b : ℕ) (s : State) → number_in (run_answer p b s) ≡ number p s

-- a run that the table gives no number begins with a well-formed record
abbrev pub TakenWellFormed : Type 0
TakenWellFormed = (p : List ℕ) (s : State) → number p s ≡ none → well_formed s.machine ≡ true

-- with a budget of 0 it changes nothing
abbrev pub NoBudget : Type 0
NoBudget = (p : List ℕ) (s : State) → run_reached p 0 s ≡ s

-- How far the chooser looks (02, T-13).

pub record LooksBounded (p : List ℕ) (b : ℕ) (s : State) : Type 0 where
  -- "is at most 8 times the issues plus 8"
  pub high : run_looks p b s ≤ 8 * length (run_issues p b s) + 8
  -- and at least one for each issue, and one for the last look
  pub low : number p s ≡ none → length (run_issues p b s) + 1 ≤ run_looks p b s

abbrev pub LooksWithin : Type 0
LooksWithin = (p : List ℕ) (b : ℕ) (s : State) → LooksBounded p b s

-- with a budget of 0 it is the last look alone
abbrev pub NoBudgetLooks : Type 0
NoBudgetLooks = (p : List ℕ) (s : State) → number p s ≡ none → run_looks p 0 s ≡ look s

-- "Refusals: none; a refused call reports 0."
abbrev pub RefusedLooks : Type 0
RefusedLooks = (p : List ℕ) (b n : ℕ) (s : State) → number p s ≡ some n → run_looks p b s ≡ 0

-- Runs between which somebody else writes the register file or memory: the turns stay fair all the same.

-- a run, and the state that it begins from
pub record Begun : Type 0 where
  pub program : List ℕ
  pub budget : ℕ
  pub from : State

-- each begins with the record that the one before it handed back; what else the machine holds may be anything
abbrev pub RecordHandedOn : List Begun → Machine → Type 0
RecordHandedOn [] m = Unit {0}
RecordHandedOn (r ∷ rs) m = (r.from.machine ≡ m) × RecordHandedOn rs (run_reached r.program r.budget r.from).machine

-- their issues, one after the other
unfoldable pub issues_of : List Begun → List Issue
issues_of [] = []
issues_of (r ∷ rs) = run_issues r.program r.budget r.from ++ issues_of rs

-- the same for who does not open the definition
pub record IssuesInOrder : Type 0 where
  pub empty : issues_of [] ≡ []
  pub first : (r : Begun) (rs : List Begun) → issues_of (r ∷ rs) ≡ run_issues r.program r.budget r.from ++ issues_of rs

abbrev pub TurnsFair : Type 0
TurnsFair = (rs : List Begun) (m : Machine) → well_formed m ≡ true → RecordHandedOn rs m → Fair (issues_of rs) (enabled_threads m)

-- Counts of turns (02, T-05): "Each thread entry gains its issues since start, trapping ones too, wrapping at 2^32."

-- the machine that a list of calls leaves: what the last of them handed back or left
abbrev pub left_by : List Call → State → State
left_by [] s = s
left_by (c ∷ cs) s = left_by cs c.outcome.left

-- over any list of runs a thread's count is what it was, and the number of its issues written down more, modulo 2^32
abbrev pub TurnsCounted : Type 0
TurnsCounted = (calls : List Call) (s : State) → Session calls s → (t : ℕ) → turns_at s.machine t < 2 ^ 32
    → turns_at (left_by calls s).machine t ≡ (turns_at s.machine t + made t (written calls s)) % 2 ^ 32
