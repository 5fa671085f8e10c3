-- What a run keeps, and what two runs of one program make together.
use Prim.Native.Nat.{ℕ, zero, suc, ◌+◌, ◌-◌, ◌*◌, ◌≤◌}
use mathlib.Core.Bool.{Bool, true, false, cond}
use mathlib.Core.List.{List, [], ◌∷◌, ◌++◌}
use mathlib.Core.Option.{Option, none, some}
use mathlib.Core.Path.{◌≡◌, refl, sym, ap, ◌∙◌}
use native.Mathlib.Omega.{arith}
use lib.ListN.{length}
use Rattle.answer.specs.Answer.{given, refused}
use Rattle.execution.proofs.Claims.{lengths}
use Rattle.machine.specs.Machine.{turns_at}
use Rattle.machine.specs.State.{State, state}
use Rattle.std.specs.Prelude as P
use Rattle.std.specs.Prelude.{Some, None}
use Rattle.machine.specs.Scheduler.{some_chosen, Choice, choice, with_last, some_waits}
use Rattle.machine.specs.WellFormed.{well_formed}
use Rattle.interpreter.specs.Answer.{stopped, stuck, spent}
use Rattle.interpreter.specs.Choosing.{Issue, if_chosen, issued, issues, reached, idle_ending, ending_at, look, looks_for}
use Rattle.interpreter.specs.Claims.{StaysWellFormed, MaskStays, LengthsStay, WithinBudget, SpendsBudget, Composed, Composes, number_in, AnswersNumber, TakenWellFormed, NoBudget, LooksBounded, LooksWithin, NoBudgetLooks, RefusedLooks}
use Rattle.answer.specs.Refusal.{refused_or}
use Rattle.interpreter.specs.Run.{number, run_issues, run_reached, run_answer, run_looks}
use Rattle.interpreter.specs.Stretch.{Carried, last_look, Stretched}
use Rattle.interpreter.specs.Types.{Stop, Stretch}
use Rattle.interpreter.proofs.Issuing.{issued-sound, issued-well-formed, reached-nothing, reached-one-more, reached-none, issues-none, ending-none}
use Rattle.interpreter.proofs.Looks.{look-bounds, looks-bounds, looks-append}
use Rattle.interpreter.proofs.Refusals.{run-taken, taken-run}

-- what each issue of the thread chosen keeps, a run keeps
Kept : (State → Type 0) → List ℕ → Type 0
Kept P p = (s : State) (t d : ℕ) → choice s.machine ≡ some_chosen t d → P s → P (issued p s t)

module _ (P : State → Type 0) (p : List ℕ) (each : Kept P p) where
  reached-keeps : (b : ℕ) (s : State) → P s → P (reached p b s)
  unfolding Kept
  reached-keeps zero s h = rw (reached-nothing p s) h
  reached-keeps (suc b) s h = rw (reached-one-more p s b) (go (choice s.machine) refl (λ t. reached-keeps b (issued p s t)))
    where
      go : (c : Choice) → choice s.machine ≡ c → ((t : ℕ) → P (issued p s t) → P (reached p b (issued p s t)))
          → P (if_chosen c (λ t. reached p b (issued p s t)) s)
      go (Some x) e more = more x.thread (each s x.thread x.distance e h)
      go None e more = h

  run-keeps : (b : ℕ) (s : State) → P s → P (run_reached p b s)
  unfolding run_reached
  run-keeps b s h = go (number p s)
    where
      go : (o : Option ℕ) → P (refused_or o (λ n. s) (reached p b s))
      go none = reached-keeps b s h
      go (some n) = h

well-formed-kept : (p : List ℕ) → Kept (λ s. well_formed s.machine ≡ true) p
unfolding Kept
well-formed-kept p s t d e h = issued-well-formed p s t d e h

mask-kept : (mask : ℕ) (p : List ℕ) → Kept (λ s. s.machine.enabled ≡ mask) p
unfolding Kept
mask-kept mask p s t d e h = (issued-sound p s t).enabled ∙ h

-- the lengths of the register file and of memory
abbrev Sized : ℕ → ℕ → State → Type 0
Sized regs bytes s = (length s.registers ≡ regs) × (length s.memory ≡ bytes)

lengths-kept : (regs bytes : ℕ) (p : List ℕ) → Kept (Sized regs bytes) p
unfolding Kept issued
lengths-kept regs bytes p s t d e h =
    let r : State = state (with_last s.machine t) s.registers s.memory in
    (lengths.of-registers p r t (turns_at s.machine t) ∙ h.0, lengths.of-memory p r t (turns_at s.machine t) ∙ h.1)

pub stays-well-formed : StaysWellFormed
stays-well-formed p b s h = run-keeps (λ x. well_formed x.machine ≡ true) p (well-formed-kept p) b s h

pub mask-stays : MaskStays
mask-stays p b s = run-keeps (λ x. x.machine.enabled ≡ s.machine.enabled) p (mask-kept s.machine.enabled p) b s refl

pub lengths-stay : LengthsStay
lengths-stay p b s =
    run-keeps (Sized (length s.registers) (length s.memory)) p (lengths-kept (length s.registers) (length s.memory) p) b s (refl, refl)

-- The number of issues.

-- where no thread is running, the run does not answer spent
idle-unspent : (s : State) → idle_ending s.machine ≡ spent → ⊥
unfolding idle_ending
idle-unspent s h = go (some_waits s.machine) h
  where
    go : (b : Bool) → cond b stuck stopped ≡ spent → ⊥
    go true e = let z : ◌≡◌ {A = ℕ} 0 1 = cc in omega arith
    go false e = let z : ◌≡◌ {A = ℕ} 0 1 = cc in omega arith

module _ (p : List ℕ) where
  issues-within : (b : ℕ) (s : State) → length (issues p b s) ≤ b
  unfolding issues
  issues-within zero s = omega arith
  issues-within (suc b) s = go (choice s.machine) (λ t. issues-within b (issued p s t))
    where
      go : (c : Choice) → ((t : ℕ) → length (issues p b (issued p s t)) ≤ b)
          → length (if_chosen c (λ t. record { before = s; thread = t } ∷ issues p b (issued p s t)) []) ≤ suc b
      go (Some x) more = let h = more x.thread in omega arith
      go None more = omega arith

  spent-whole : (b : ℕ) (s : State) → ending_at (reached p b s) ≡ spent → length (issues p b s) ≡ b
  unfolding issues
  spent-whole zero s h = refl
  spent-whole (suc b) s h =
      go (choice s.machine) refl (sym (ap ending_at (reached-one-more p s b)) ∙ h) (λ t. spent-whole b (issued p s t))
    where
      go : (c : Choice) → choice s.machine ≡ c → ending_at (if_chosen c (λ t. reached p b (issued p s t)) s) ≡ spent
          → ((t : ℕ) → ending_at (reached p b (issued p s t)) ≡ spent → length (issues p b (issued p s t)) ≡ b)
          → length (if_chosen c (λ t. record { before = s; thread = t } ∷ issues p b (issued p s t)) []) ≡ suc b
      go (Some x) e k more = ap suc (more x.thread k)
      go None e k more = absurd (idle-unspent s (sym (ending-none p s e) ∙ k))

pub within-budget : WithinBudget
unfolding run_issues
within-budget p b s = go (number p s)
  where
    go : (o : Option ℕ) → length (refused_or o (λ n. []) (issues p b s)) ≤ b
    go none = issues-within p b s
    go (some n) = omega arith

pub spends-budget : SpendsBudget
unfolding run_issues run_answer
spends-budget p b s h = go (number p s) h
  where
    go : (o : Option ℕ) → refused_or o refused (given (ending_at (reached p b s))) ≡ given spent
        → length (refused_or o (λ n. []) (issues p b s)) ≡ b
    go none e = let f : ending_at (reached p b s) ≡ spent = cc in spent-whole p b s f
    go (some n) e = absurd (let z : ◌≡◌ {A = ℕ} 0 1 = cc in omega arith)

-- a run from a state looks at no more than 64 bits hold, whatever it has come to
pub carried-within : (p : List ℕ) (b : ℕ) (first : State) (made looked : ℕ) (s : State) → Carried p b first made looked s → looked ≤ 8 * b
carried-within p b first made looked s k =
    omega (arith, k.looks, (looks-bounds (issues p b first)).1, issues-within p b first)

pub stretched-within : (p : List ℕ) (b : ℕ) (first : State) (r : Stretch) (s : State) → Stretched p b first r s → r.looks ≤ 8 * b + 8
stretched-within p b first r s k =
    omega (arith, k.looks, carried-within p b first (b - r.left) r.passed s k.carried, last r.stop)
  where
    last : (stop : P.Option Stop) → last_look stop (look s) ≤ 8
    last None = omega arith
    last (Some stop) = (look-bounds s).1

-- Two runs.

module _ (p : List ℕ) (m : ℕ) where
  reached-add : (n : ℕ) (s : State) → reached p (n + m) s ≡ reached p m (reached p n s)
  reached-add zero s = let e : 0 + m ≡ m = omega arith in rw (e, reached-nothing p s)
  reached-add (suc n) s =
      let e : suc n + m ≡ suc (n + m) = omega arith in
      rw (e, reached-one-more p s (n + m), reached-one-more p s n) (go (choice s.machine) refl (λ t. reached-add n (issued p s t)))
    where
      go : (c : Choice) → choice s.machine ≡ c → ((t : ℕ) → reached p (n + m) (issued p s t) ≡ reached p m (reached p n (issued p s t)))
          → if_chosen c (λ t. reached p (n + m) (issued p s t)) s ≡ reached p m (if_chosen c (λ t. reached p n (issued p s t)) s)
      go (Some x) e more = more x.thread
      go None e more = sym (reached-none p s e m)

  issues-add : (n : ℕ) (s : State) → issues p (n + m) s ≡ issues p n s ++ issues p m (reached p n s)
  unfolding issues
  issues-add zero s = let e : 0 + m ≡ m = omega arith in rw (e, reached-nothing p s)
  issues-add (suc n) s =
      let e : suc n + m ≡ suc (n + m) = omega arith in
      rw (e, reached-one-more p s n) (go (choice s.machine) refl (λ t. issues-add n (issued p s t)))
    where
      go : (c : Choice) → choice s.machine ≡ c
          → ((t : ℕ) → issues p (n + m) (issued p s t) ≡ issues p n (issued p s t) ++ issues p m (reached p n (issued p s t)))
          → if_chosen c (λ t. record { before = s; thread = t } ∷ issues p (n + m) (issued p s t)) []
          ≡ if_chosen c (λ t. record { before = s; thread = t } ∷ issues p n (issued p s t)) [] ++ issues p m (if_chosen c (λ t. reached p n (issued p s t)) s)
      go (Some x) e more = ap {B = List Issue} (λ is. record { before = s; thread = x.thread } ∷ is) (more x.thread)
      go None e more = sym (issues-none p s e m)

  -- both look at the state between them
  looks-add : (n : ℕ) (s : State) → looks_for (issues p (n + m) s) ≡ looks_for (issues p n s) + looks_for (issues p m (reached p n s))
  looks-add n s = ap looks_for (issues-add n s) ∙ looks-append (issues p n s) (issues p m (reached p n s))

-- with no budget there is the last look alone
looks-nothing : (p : List ℕ) (s : State) → looks_for (issues p 0 s) + look (reached p 0 s) ≡ look s
unfolding issues looks_for
looks-nothing p s = ap (λ (x : State). 0 + look x) (reached-nothing p s) ∙ omega arith

-- a run that is not refused reaches a state from which none of its program is
taken-still : (p : List ℕ) (b : ℕ) (s : State) → number p s ≡ none → number p (reached p b s) ≡ none
taken-still p b s h =
    let k = run-taken (length p) (length s.registers) (length s.memory) s.machine h in
    let l = reached-keeps (Sized (length s.registers) (length s.memory)) p (lengths-kept (length s.registers) (length s.memory) p) b s (refl, refl) in
    let w = reached-keeps (λ x. well_formed x.machine ≡ true) p (well-formed-kept p) b s k.well-formed in
    taken-run (length p) (length (reached p b s).registers) (length (reached p b s).memory) (reached p b s).machine
    (record { program = k.program; registers = rw l.0 k.registers; memory = rw l.1 k.memory; well-formed = w })

pub joins : Composes
unfolding run_issues run_reached run_answer run_looks
joins p n m s = go (number p s) refl
  where
    go : (o : Option ℕ) → number p s ≡ o → Composed p n m s
    go none e =
        let f = taken-still p n s e in
        record {
          issues = rw (e, f) (issues-add p m n s);
          reached = rw (e, f) (reached-add p m n s);
          answer = rw (e, f) (ap (λ x. given (ending_at x)) (reached-add p m n s));
          looks =
              rw (e, f)
              (omega (arith, looks-add p m n s, ap look (reached-add p m n s), looks-nothing p (reached p n s)));
        }
    go (some k) e = record { issues = rw (e, e); reached = rw (e, e); answer = rw (e, e); looks = rw (e, e) }

-- A refusal, and no budget.

pub answers_number : AnswersNumber
unfolding run_answer
answers_number p b s = go (number p s)
  where
    go : (o : Option ℕ) → number_in (refused_or o refused (given (ending_at (reached p b s)))) ≡ o
    go none = refl
    go (some n) = refl

pub taken-well-formed : TakenWellFormed
taken-well-formed p s h = (run-taken (length p) (length s.registers) (length s.memory) s.machine h).well-formed

pub no-budget : NoBudget
unfolding run_reached
no-budget p s = go (number p s)
  where
    go : (o : Option ℕ) → refused_or o (λ n. s) (reached p 0 s) ≡ s
    go none = reached-nothing p s
    go (some n) = refl

-- How far the chooser looks.

pub looks-within : LooksWithin
unfolding run_looks run_issues run_reached
looks-within p b s = go (number p s) refl
  where
    go : (o : Option ℕ) → number p s ≡ o → LooksBounded p b s
    go none e =
        let i = looks-bounds (issues p b s) in
        let l = look-bounds (reached p b s) in
        record { high = rw e (omega (arith, i.1, l.1)); low = λ h. rw e (omega (arith, i.0, l.0)) }
    go (some n) e = record { high = rw e (omega arith); low = λ h. absurd (let z : ◌≡◌ {A = ℕ} 0 1 = cc in omega arith) }

pub no-budget-looks : NoBudgetLooks
unfolding run_looks run_issues run_reached
no-budget-looks p s h = rw h (looks-nothing p s)

pub refused-looks : RefusedLooks
unfolding run_looks
refused-looks p b n s h = rw h
