-- Laws of counting by rounds.
use Prim.Native.Nat.{ℕ, suc, ◌+◌, ◌-◌, ◌/◌, ◌%◌, ◌<◌}
use mathlib.Core.Bool.{true, false, cond}
use mathlib.Core.List.{List, [], ◌∷◌}
use mathlib.Core.Path.{◌≡◌, refl, sym, ap, ◌∙◌}
use native.Mathlib.Omega.{arith}
use lib.ListN.{length, get_or, set}
use lib.Seq.{set-get_or}
use Rattle.thread_entry.specs.Entry.{many_more}
use Rattle.machine.specs.Rounds.{between, issues_within, with_issues}
use Rattle.machine.specs.Scheduler.{runs}
use Rattle.machine.specs.declared.record.Machine.{Machine}
use Rattle.machine.proofs.Loops.{changed, change}

-- a thread's count with its issues
abbrev pub with : Machine → ℕ → ℕ → ℕ → ℕ
with m passed t n = many_more (issues_within m passed t) n

pub all-with : (f : ℕ → ℕ) (turns : List ℕ) → changed (λ t n. many_more (f t) n) turns (length turns) ≡ with_issues f turns
unfolding changed with_issues
all-with f [] = refl
all-with f (n ∷ turns) = ap {B = List ℕ} (λ r. many_more (f 0) n ∷ r) (all-with (λ t. f (suc t)) turns)

-- no sum of the code passes the word's end: the rounds before the last, and whether the last comes so far
pub rounds-in-two : (passed b : ℕ) → b < 8 → passed / 8 + (passed % 8 + 7 - b) / 8 ≡ (passed + 7 - b) / 8
rounds-in-two passed b small = omega arith

module _ (m : Machine) (passed : ℕ) (first : List ℕ) (t : ℕ) (turns : List ℕ) (l : t < length first)
    (e : turns ≡ changed (with m passed) first t) where
  -- one thread more: it runs and is counted, or has none
  pub counts : runs m t ≡ true → set turns t (many_more ((passed + 7 - between m t) / 8) (get_or turns t 0)) ≡ changed (with m passed) first (t + 1)
  unfolding issues_within
  counts r =
      let n : (passed + 7 - between m t) / 8 ≡ issues_within m passed t = rw r in
      ap (λ k. set turns t (many_more k (get_or turns t 0))) n ∙ change (with m passed) first t 0 turns e l

  pub stays : runs m t ≡ false → turns ≡ changed (with m passed) first (t + 1)
  unfolding issues_within many_more
  stays r =
      let n : with m passed t (get_or turns t 0) ≡ get_or turns t 0 =
      ap (λ b. many_more (cond b ((passed + 7 - between m t) / 8) 0) (get_or turns t 0)) r in
      sym (set-get_or turns t 0) ∙ ap (set turns t) (sym n) ∙ change (with m passed) first t 0 turns e l
