-- What trying a word comes to.
use Rattle.std.proofs.Common.{◌≡◌, ℕ, ◌/◌, Bool, true, false, List, length, get_or, sym, refl, ap, ◌∙◌, subst, arith}
use mathlib.Core.Option.{Option, none, some}
use Rattle.execution.specs.Effect.{Stays, Step, step, beside}
use Rattle.execution.specs.Issue.{fits, perform, perform_sets_status, issue, issue_sets_status}
use Rattle.execution.specs.Jump.{in_program}
use Rattle.execution.specs.Registers.{program_counter}
use Rattle.word_layout.specs.Layout.{bits}
use Rattle.fast_path.specs.Action.{step_of, Executes, Acts, Goes, Tried, TriedWord, TriedIssue}
use Rattle.fast_path.specs.Types.{Action, Context}

-- a word that is executed as a step says is tried by trying that step
pub tries-step : (c : Context) (w : ℕ) (regs memory : List ℕ) (s : Option Step) → Executes c w regs memory s →
    (r : Bool) (after : List ℕ) → Goes s regs r after → Tried c w regs memory r after memory
tries-step c w regs memory (some s) h true after k =
    let e : s ≡ step Stays after = cc in
    ap (λ (x : Step). beside x memory) (sym e) ∙ sym h
tries-step c w regs memory none h true after k = let z : ◌≡◌ {A = ℕ} 0 1 = cc in absurd (omega arith)
tries-step c w regs memory s h false after k = (k, refl)

-- the same of an action
pub tries-action : (c : Context) (w d : ℕ) → d ≡ bits w 23 18 → (regs memory : List ℕ) (a : Action) → Acts c w regs memory a →
    (r : Bool) (after : List ℕ) → Goes (step_of c d regs a) regs r after → Tried c w regs memory r after memory
tries-action c w d e regs memory a h r after k =
    tries-step c w regs memory (step_of c (bits w 23 18) regs a) h r after
    (subst (λ (x : ℕ). Goes (step_of c x regs a) regs r after) e k)

-- trying the word at a thread's s63 is its issue
pub tries-issue : (p : List ℕ) (t : ℕ) (regs memory : List ℕ) → fits (length p) (length regs) t ≡ true → (pc : ℕ) →
    pc ≡ program_counter regs t → in_program (length p) pc ≡ true → (r : Bool) (after stored : List ℕ) →
    TriedWord t pc (length p) (get_or p (pc / 4) 0) regs memory r after stored → TriedIssue p t regs memory r after stored
unfolding issue issue_sets_status perform perform_sets_status
tries-issue p t regs memory f pc e i true after stored h =
    λ m turns. (rw (f, ← e, i, ← h m.enabled turns), rw (f, ← e, i, ← h m.enabled turns))
tries-issue p t regs memory f pc e i false after stored h = h 0 0
