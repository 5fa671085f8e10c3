-- Over any list of runs a thread's count of turns grows by the number of its issues written down.
use Prim.Native.Nat.{ℕ, zero, suc, ◌+◌, ◌%◌, ◌^◌, ◌<◌}
use mathlib.Core.Bool.{cond}
use mathlib.Core.List.{List, [], ◌∷◌, ◌++◌}
use mathlib.Core.Option.{Option, none, some}
use mathlib.Core.Path.{◌≡◌, refl, sym, ap, ◌∙◌}
use native.Mathlib.Decide.{ℕ_discrete}
use native.Mathlib.Omega.{arith}
use borrow.Author.Tests.{eq-eqb, ne_eqb}
use lib.Dec.{eqb}
use lib.ListN.{length, get_or}
use Rattle.answer.specs.Refusal.{refused_or}
use Rattle.execution.proofs.Claims.{uncounted}
use Rattle.machine.proofs.Claims.{chooses, counts-kept, counting}
use Rattle.machine.proofs.Kept.{running-entry}
use Rattle.machine.specs.Machine.{turns_at}
use Rattle.std.specs.Prelude.{Some, None}
use Rattle.machine.specs.Scheduler.{some_chosen, Choice, choice, with_last}
use Rattle.machine.specs.State.{State, state}
use Rattle.interpreter.specs.Choosing.{Issue, if_chosen, performed, issued, issues, reached}
use Rattle.interpreter.specs.Claims.{TurnsCounted}
use Rattle.interpreter.specs.Demand.{written, made}
use Rattle.interpreter.specs.Run.{Outcome, number, run_issues, run_reached, run}
use Rattle.interpreter.proofs.Issuing.{reached-nothing, reached-one-more}

-- a count, and so many more
abbrev more : ℕ → ℕ → ℕ
more turns n = (turns + n) % 2 ^ 32

module _ (p : List ℕ) (s : State) (t d : ℕ) (h : choice s.machine ≡ some_chosen t d) where
  performed-counts : (u : ℕ) → turns_at (performed p s t).machine u ≡ turns_at s.machine u
  performed-counts u =
      let from = state (with_last s.machine t) s.registers s.memory in
      sym (counts-kept.at (performed p s t).machine u)
      ∙ ap (λ ns. get_or ns u 0) (uncounted p from t (turns_at s.machine t))
      ∙ counts-kept.at (with_last s.machine t) u

  has-entry : t < length (performed p s t).machine.threads
  has-entry =
      let from = state (with_last s.machine t) s.registers s.memory in
      let there = running-entry s.machine t ((chooses s.machine t d).0 h).running in
      let after = counts-kept.length-of (performed p s t).machine in
      let before = counts-kept.length-of (with_last s.machine t) in
      omega (arith, ap length (uncounted p from t (turns_at s.machine t)), after, before, there)

  -- one issue is counted where it was made, and in no other entry
  issued-counts : (u : ℕ) → turns_at s.machine u < 2 ^ 32
      → turns_at (issued p s t).machine u ≡ more (turns_at s.machine u) (cond (eqb t u) 1 0)
  unfolding issued
  issued-counts u l = go (ℕ_discrete u t)
    where
      go : Dec (u ≡ t) → turns_at (issued p s t).machine u ≡ more (turns_at s.machine u) (cond (eqb t u) 1 0)
      go (yes e) =
          rw (e, eq-eqb t t refl)
          (counting.own (performed p s t).machine t has-entry ∙ ap (λ n. more n 1) (performed-counts t))
      go (no e) =
          rw (ne_eqb t u (λ f. e (sym f)))
          (counting.others (performed p s t).machine t u e ∙ performed-counts u ∙ omega arith)

module _ (p : List ℕ) (u : ℕ) where
  reached-counts : (b : ℕ) (s : State) → turns_at s.machine u < 2 ^ 32
      → turns_at (reached p b s).machine u ≡ more (turns_at s.machine u) (made u (issues p b s))
  unfolding issues
  reached-counts zero s l = rw (reached-nothing p s) (omega arith)
  reached-counts (suc b) s l = rw (reached-one-more p s b) (go (choice s.machine) refl (λ t. reached-counts b (issued p s t)))
    where
      go : (c : Choice) → choice s.machine ≡ c
          → ((t : ℕ) → turns_at (issued p s t).machine u < 2 ^ 32
          → turns_at (reached p b (issued p s t)).machine u ≡ more (turns_at (issued p s t).machine u) (made u (issues p b (issued p s t))))
          → turns_at (if_chosen c (λ t. reached p b (issued p s t)) s).machine u
          ≡ more (turns_at s.machine u) (made u (if_chosen c (λ t. record { before = s; thread = t } ∷ issues p b (issued p s t)) []))
      go (Some x) h rest = let e = issued-counts p s x.thread x.distance h u l in let f = rest x.thread (omega arith) in omega arith
      go None h rest = omega arith

  run-counts : (b : ℕ) (s : State) → turns_at s.machine u < 2 ^ 32
      → turns_at (run_reached p b s).machine u ≡ more (turns_at s.machine u) (made u (run_issues p b s))
  unfolding run_reached run_issues
  run-counts b s l = go (number p s)
    where
      go : (o : Option ℕ) → turns_at (refused_or o (λ n. s) (reached p b s)).machine u
          ≡ more (turns_at s.machine u) (made u (refused_or o (λ n. []) (issues p b s)))
      go none = reached-counts b s l
      go (some n) = omega arith

-- issues of two rows
made-append : (u : ℕ) (a b : List Issue) → made u (a ++ b) ≡ made u a + made u b
made-append u [] b = omega arith
made-append u (i ∷ a) b = let h = made-append u a b in omega arith

pub turns-counted : TurnsCounted
unfolding written run
turns-counted [] s session u l = omega arith
turns-counted (c ∷ cs) s session u l =
    let left : c.outcome.left ≡ run_reached c.program c.budget s = ap (λ (o : Outcome). o.left) session.0 in
    let one = run-counts c.program u c.budget s l in
    let here : turns_at c.outcome.left.machine u ≡ more (turns_at s.machine u) (made u (run_issues c.program c.budget s)) =
    ap (λ (x : State). turns_at x.machine u) left ∙ one in
    let rest = turns-counted cs c.outcome.left session.1 u (omega arith) in
    let same = ap (λ x. made u (written cs x)) left in
    let both = made-append u (run_issues c.program c.budget s) (written cs (run_reached c.program c.budget s)) in
    omega arith
