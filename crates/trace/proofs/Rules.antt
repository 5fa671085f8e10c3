-- What the interpreter's claims say of a run with one issue more, and of one that has ended.
use Rattle.std.proofs.Common.{◌≡◌, ℕ, zero, suc, ◌+◌, ◌%◌, ◌^◌, ◌<◌, true, false, List, [], ◌∷◌, ◌++◌, length, sym, refl, ap, ◌∙◌, append-nil, arith, length-append}
use mathlib.Core.Option.{Option, none, some}
use Rattle.answer.specs.Answer.{given, refused}
use Rattle.interpreter.proofs.Claims.{within-budget, joins, answers_number, looks-within, no-budget-looks, ends-by-record}
use Rattle.std.specs.Prelude.{Result, Ok, Err, Some, None, IsOk}
use Rattle.answer.specs.Refusal.{row_of}
use Rattle.interpreter.specs.Answer.{ending_of, spent}
use Rattle.interpreter.specs.Choosing.{issued, issues, reached_by, reached, entries_to, look, looks_for, ending_at}
use Rattle.interpreter.specs.Claims.{SomeThread, number_in}
use Rattle.interpreter.specs.Run.{Outcome, run_outcome, outcome, number, run_issues, run_reached, run_answer, run_looks, run}
use Rattle.machine.proofs.Claims.{chooses, chooses_none}
use Rattle.machine.specs.Claims.{FirstAfterLast}
use Rattle.machine.specs.Scheduler.{Choice, some_chosen, runs, choice}
use Rattle.machine.specs.State.{State, state}
use Rattle.trace.specs.Joining.{less_once, continued_run}
use Rattle.trace.specs.Types.{Run, Machine, Refusal}

-- a run that is not refused reaches a state from which none of its program is
pub taken-still : (p : List ℕ) (n : ℕ) (s : State) → number p s ≡ none → number p (run_reached p n s) ≡ none
taken-still p n s h =
    let there : number_in (run_answer p 0 (run_reached p n s)) ≡ number p (run_reached p n s) = answers_number p 0 (run_reached p n s) in
    let here : number_in (run_answer p (n + 0) s) ≡ number p s = answers_number p (n + 0) s in
    sym there ∙ ap number_in (sym (joins p n 0 s).answer) ∙ here ∙ h

-- The looks of two runs, less what both looked at.

once : (k again : ℕ) → k < 2 ^ 40 → again < 2 ^ 40 → less_once (k + again) again ≡ k
unfolding less_once
once k again h l = omega arith

looks-small : (p : List ℕ) (n : ℕ) (s : State) → n < 2 ^ 32 → run_looks p n s < 2 ^ 40
looks-small p n s l = omega (arith, (looks-within p n s).high, within-budget p n s)

-- Two runs as one.

module _ (p : List ℕ) (n m : ℕ) (s : State) (first second : Run) (r d r' d' : List ℕ) (small : n + m < 2 ^ 32) (h : number p s ≡ none)
    (e : run_outcome first r d ≡ run p n s) (f : run_outcome second r' d' ≡ run p m (run_reached p n s)) where
  abbrev twice : ℕ
  twice = entries_to (choice first.machine)

  -- what both looked at
  again : run_looks p 0 (run_reached p n s) ≡ twice
  unfolding run look
  again =
      no-budget-looks p (run_reached p n s) (taken-still p n s h)
      ∙ ap (λ (k : Machine). entries_to (choice k)) (sym (ap (λ (o : Outcome). o.left.machine) e))

  joined-looks : less_once (first.looks + second.looks) twice ≡ run_looks p (n + m) s
  unfolding run
  joined-looks =
      let here : first.looks ≡ run_looks p n s = ap (λ (o : Outcome). o.looks) e in
      let there : second.looks ≡ run_looks p m (run_reached p n s) = ap (λ (o : Outcome). o.looks) f in
      let all : first.looks + second.looks ≡ run_looks p (n + m) s + twice = omega (arith, here, there, (joins p n m s).looks, again) in
      let few : twice < 2 ^ 40 = omega (arith, again, looks-small p 0 (run_reached p n s) (omega arith)) in
      ap (λ k. less_once k twice) all ∙ once (run_looks p (n + m) s) twice (looks-small p (n + m) s small) few

  joined-issues : (first.issues + second.issues) % 2 ^ 32 ≡ length (run_issues p (n + m) s)
  unfolding run
  joined-issues =
      let here : first.issues ≡ length (run_issues p n s) = ap (λ (o : Outcome). o.issues) e in
      let there : second.issues ≡ length (run_issues p m (run_reached p n s)) = ap (λ (o : Outcome). o.issues) f in
      let all = ap length (joins p n m s).issues ∙ length-append (run_issues p n s) (run_issues p m (run_reached p n s)) in
      omega (arith, here, there, all, within-budget p (n + m) s)

  pub joined : run_outcome (continued_run first second) r' d' ≡ run p (n + m) s
  unfolding run continued_run
  joined =
      let a : given (ending_of second.stop) ≡ run_answer p (n + m) s = ap (λ (o : Outcome). o.answer) f ∙ sym (joins p n m s).answer in
      let g : state second.machine r' d' ≡ run_reached p (n + m) s = ap (λ (o : Outcome). o.left) f ∙ sym (joins p n m s).reached in
      rw (a, joined-issues, joined-looks, g)

-- One issue.

module _ (p : List ℕ) (x : State) (h : number p x ≡ none) (t d : ℕ) (e : choice x.machine ≡ some_chosen t d) where
  pub one-issue : run_issues p 1 x ≡ record { before = x; thread = t } ∷ []
  unfolding run_issues issues
  one-issue = rw (h, e)

  pub one-reached : run_reached p 1 x ≡ issued p x t
  unfolding run_reached reached reached_by issues
  one-reached = rw (h, e)

-- No issue more, where no thread is running.

module _ (p : List ℕ) (x : State) (h : number p x ≡ none) (e : choice x.machine ≡ None) where
  none_more : (k : ℕ) → issues p k x ≡ []
  unfolding issues
  none_more zero = refl
  none_more (suc k) = rw e

  none-reached : (k : ℕ) → reached p k x ≡ x
  unfolding reached reached_by
  none-reached k = rw (none_more k)

  quiet-issues : (k : ℕ) → run_issues p k x ≡ []
  unfolding run_issues
  quiet-issues k = rw (h) (none_more k)

  quiet-reached : (k : ℕ) → run_reached p k x ≡ x
  unfolding run_reached
  quiet-reached k = rw (h) (none-reached k)

  quiet-answer : (k : ℕ) → run_answer p k x ≡ given (ending_at x)
  unfolding run_answer
  quiet-answer k = rw (h) (ap (λ y. given (ending_at y)) (none-reached k))

  quiet-looks : (k : ℕ) → run_looks p k x ≡ looks_for [] + look x
  unfolding run_looks
  quiet-looks k = rw (h, quiet-issues k, quiet-reached k)

module _ (p : List ℕ) (n k : ℕ) (s : State) (h : number p s ≡ none) (e : choice (run_reached p n s).machine ≡ None) where
  abbrev end : State
  end = run_reached p n s

  still : number p end ≡ none
  still = taken-still p n s h

  plus_none : n + 0 ≡ n
  plus_none = omega arith

  ended-issues : run_issues p (n + k) s ≡ run_issues p n s
  ended-issues =
      (joins p n k s).issues ∙ ap (λ is. run_issues p n s ++ is) (quiet-issues p end still e k) ∙ append-nil (run_issues p n s)

  ended-run : run p (n + k) s ≡ run p n s
  unfolding run
  ended-run =
      let a : run_answer p (n + k) s ≡ run_answer p n s =
      (joins p n k s).answer ∙ quiet-answer p end still e k ∙ sym (quiet-answer p end still e 0) ∙ sym (joins p n 0 s).answer
      ∙ ap (λ b. run_answer p b s) plus_none in
      let g : run_reached p (n + k) s ≡ run_reached p n s = (joins p n k s).reached ∙ quiet-reached p end still e k in
      let l : run_looks p (n + k) s ≡ run_looks p n s =
      omega (arith, (joins p n k s).looks, quiet-looks p end still e k, quiet-looks p end still e 0) in
      rw (a, ended-issues, l, g)

-- A refused run is one whatever its budget.

module _ (p : List ℕ) (n k number-given : ℕ) (s : State) (h : number p s ≡ some number-given) where
  refused-issues : run_issues p n s ≡ run_issues p k s
  unfolding run_issues
  refused-issues = rw (h)

  refused-run : run p n s ≡ run p k s
  unfolding run run_issues run_reached run_answer run_looks
  refused-run = rw (h)

  refused-none : run_issues p n s ≡ []
  unfolding run_issues
  refused-none = rw (h)

-- A thread is running where a run is spent, and none where it is stopped or stuck.

someone : (m : Machine) → SomeThread (runs m) → (c : Choice) → choice m ≡ c → (t : ℕ) × ((d : ℕ) × (choice m ≡ some_chosen t d))
someone m who (Some next) e = (next.thread, (next.distance, e))
someone m who None e =
    let no : runs m who.0 ≡ false = (chooses_none m).0 e who.0 who.1 in
    let yes : runs m who.0 ≡ true = who.2 in
    absurd (let z : ◌≡◌ {A = ℕ} 0 1 = cc in omega arith)

pub spent-chosen : (p : List ℕ) (n : ℕ) (s : State) → number p s ≡ none → run_answer p n s ≡ given spent
    → (t : ℕ) × ((d : ℕ) × (choice (run_reached p n s).machine ≡ some_chosen t d))
spent-chosen p n s h e =
    someone (run_reached p n s).machine ((ends-by-record p n s h).spent-exactly.0 e) (choice (run_reached p n s).machine) refl

chosen-below : (m : Machine) (t d : ℕ) → FirstAfterLast m t d → t < 8
chosen-below m t d first = omega (arith, first.place)

ended-none : (p : List ℕ) (n : ℕ) (s : State) → number p s ≡ none → (run_answer p n s ≡ given spent → ⊥)
    → choice (run_reached p n s).machine ≡ None
ended-none p n s h not = go (choice (run_reached p n s).machine) refl
  where
    go : (c : Choice) → choice (run_reached p n s).machine ≡ c → choice (run_reached p n s).machine ≡ None
    go None e = e
    go (Some next) e =
        let m = (run_reached p n s).machine in
        let first = (chooses m next.thread next.distance).0 e in
        absurd (not ((ends-by-record p n s h).spent-exactly.1 (next.thread, chosen-below m next.thread next.distance first, first.running)))

-- A run that does not answer spent is the same with a greater budget: it is refused, or no thread is running where it ends.
pub ended-for-good : (p : List ℕ) (n k : ℕ) (s : State) → (run_answer p n s ≡ given spent → ⊥)
    → (run p (n + k) s ≡ run p n s) × (run_issues p (n + k) s ≡ run_issues p n s)
ended-for-good p n k s not = go (number p s) refl
  where
    go : (o : Option ℕ) → number p s ≡ o → (run p (n + k) s ≡ run p n s) × (run_issues p (n + k) s ≡ run_issues p n s)
    go (some j) t = (refused-run p (n + k) n j s t, refused-issues p (n + k) n j s t)
    go none t = let quiet = ended-none p n s t not in (ended-run p n k s t quiet, ended-issues p n k s t quiet)

-- A call's result, by whether the table has a number for the run.

pub not-refused : (p : List ℕ) (n : ℕ) (s : State) (e : Refusal) (m : Machine) (r d : List ℕ) → number p s ≡ none → outcome (Err e) m r d ≡ run p n s → ⊥
unfolding run run_answer
not-refused p n s e m r d h o =
    let a : refused (row_of e) ≡ run_answer p n s = ap (λ (x : Outcome). x.answer) o in
    let b : run_answer p n s ≡ given (ending_at (reached p n s)) = rw h in
    let z : ◌≡◌ {A = ℕ} 0 1 = cc in omega arith

pub taken-ok : (p : List ℕ) (n : ℕ) (s : State) (x : Result Run Refusal) (m : Machine) (r d : List ℕ) → number p s ≡ none
    → outcome x m r d ≡ run p n s → IsOk x
taken-ok p n s (Ok y) m r d h o = refl
taken-ok p n s (Err e) m r d h o = absurd (not-refused p n s e m r d h o)

pub taken-so : (p : List ℕ) (n : ℕ) (s : State) (x : Run) (r d : List ℕ) → run_outcome x r d ≡ run p n s → number p s ≡ none
unfolding run run_answer
taken-so p n s x r d o = go (number p s) refl
  where
    go : (k : Option ℕ) → number p s ≡ k → number p s ≡ none
    go none h = h
    go (some j) h =
        let a : given (ending_of x.stop) ≡ run_answer p n s = ap (λ (y : Outcome). y.answer) o in
        let b : run_answer p n s ≡ refused j = rw h in
        absurd (let z : ◌≡◌ {A = ℕ} 0 1 = cc in omega arith)

pub refused-same : (p : List ℕ) (n k j : ℕ) (s : State) → number p s ≡ some j → (run p n s ≡ run p k s) × (run_issues p k s ≡ [])
refused-same p n k j s h = (refused-run p n k j s h, refused-none p k k j s h)
