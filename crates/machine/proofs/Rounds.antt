-- While no status is set turns go round: the counts follow from how many entries the chooser passed.
use Prim.Native.Nat.{ℕ, zero, suc, ◌+◌, ◌-◌, ◌/◌, ◌%◌, ◌<◌, ◌≤◌}
use mathlib.Core.Bool.{Bool, true, false, cond}
use mathlib.Core.List.{List, [], ◌∷◌}
use mathlib.Core.Path.{◌≡◌, refl, sym, ap, ◌∙◌}
use native.Mathlib.Omega.{arith}
use lib.ListN.{length, get_or, set}
use Rattle.machine.specs.Claims.{RoundsCounted}
use Rattle.thread_entry.specs.Entry.{one_more_turn, many_more}
use Rattle.machine.specs.Rounds.{between, issues_within, with_issues}
use Rattle.machine.specs.Scheduler.{some_chosen, runs, choice, with_last}
use Rattle.machine.specs.Types.{Machine}
use Rattle.machine.proofs.Choosing.{chooses}
use Rattle.machine.proofs.Tests.{never}

-- Counts.

with-length : (f : ℕ → ℕ) (turns : List ℕ) → length (with_issues f turns) ≡ length turns
unfolding with_issues
with-length f [] = refl
with-length f (n ∷ turns) = ap suc (with-length (λ t. f (suc t)) turns)

with_at : (f : ℕ → ℕ) (turns : List ℕ) (t : ℕ) → t < length turns → get_or (with_issues f turns) t 0 ≡ many_more (f t) (get_or turns t 0)
unfolding with_issues
with_at f [] t l = absurd (omega arith)
with_at f (n ∷ turns) zero l = refl
with_at f (n ∷ turns) (suc t) l = with_at (λ u. f (suc u)) turns t (omega arith)

with_none : (f : ℕ → ℕ) (turns : List ℕ) → ((t : ℕ) → f t ≡ 0) → with_issues f turns ≡ turns
unfolding with_issues many_more
with_none f [] h = refl
with_none f (n ∷ turns) h = λ i. many_more (h 0 i) n ∷ with_none (λ t. f (suc t)) turns (λ t. h (suc t)) i

with-same : (f g : ℕ → ℕ) (turns : List ℕ) → ((u : ℕ) → u < length turns → f u ≡ g u) → with_issues f turns ≡ with_issues g turns
unfolding with_issues
with-same f g [] h = refl
with-same f g (n ∷ turns) h =
    λ i. many_more (h 0 (omega arith) i) n ∷ with-same (λ t. f (suc t)) (λ t. g (suc t)) turns (λ u l. h (suc u) (omega arith)) i

-- one thread has one issue more, and no other has
with-one-more : (f g : ℕ → ℕ) (turns : List ℕ) (t : ℕ) → t < length turns → g t ≡ suc (f t)
    → ((u : ℕ) → u < length turns → (u ≡ t → ⊥) → g u ≡ f u)
    → with_issues g turns ≡ set (with_issues f turns) t (one_more_turn (get_or (with_issues f turns) t 0))
unfolding with_issues many_more
with-one-more f g [] t l own others = absurd (omega arith)
with-one-more f g (n ∷ turns) zero l own others =
    λ i. many_more (own i) n
    ∷ with-same (λ t. g (suc t)) (λ t. f (suc t)) turns (λ u k. others (suc u) (omega arith) (λ e. omega arith)) i
with-one-more f g (n ∷ turns) (suc t) l own others =
    λ i. many_more (others 0 (omega arith) (λ e. omega arith) i) n
    ∷ with-one-more (λ u. f (suc u)) (λ u. g (suc u)) turns t (omega arith) own
    (λ u k ne. others (suc u) (omega arith) (λ e. ne (omega arith))) i

-- Rounds.

part : (a b : ℕ) → (a % 8 + b) % 8 ≡ (a + b) % 8
part a b = omega arith

back : (x n : ℕ) → x < 8 → 1 ≤ n → ((x + n) % 8 + 7 - x) % 8 ≡ (n - 1) % 8
back x n l low = omega arith

-- a thread at a distance from where "last" has come to, seen from where it was
gap : (first passed last t d : ℕ) → last % 8 ≡ (first + passed) % 8 → t ≡ (last + d) % 8 → 1 ≤ d → (t + 7 - first % 8) % 8 ≡ (passed + d - 1) % 8
gap first passed last t d e place low =
    let s : t ≡ (first % 8 + (passed + d)) % 8 =
    place ∙ sym (part last d) ∙ ap (λ n. (n + d) % 8) e ∙ part (first + passed) d ∙ ap (λ n. n % 8) (omega arith) ∙ sym (part first (passed + d)) in
    ap (λ n. (n + 7 - first % 8) % 8) s ∙ back (first % 8) (passed + d) (omega arith) (omega arith)

-- its next issue is in the round at hand, and that of a thread farther on is not
reaches : (passed d g : ℕ) → 1 ≤ d → d ≤ 8 → g ≡ (passed + d - 1) % 8
    → ((passed + 7 - g) / 8 ≡ (passed + d - 1) / 8) × ((passed + d + 7 - g) / 8 ≡ suc ((passed + d - 1) / 8))
reaches passed d g low high e = (omega arith, omega arith)

misses : (passed d farther g : ℕ) → d < farther → farther ≤ 8 → g ≡ (passed + farther - 1) % 8 → (passed + d + 7 - g) / 8 ≡ (passed + 7 - g) / 8
misses passed d farther g near high e = omega arith

module _ (m : Machine) (passed last t d : ℕ) (e : last % 8 ≡ (m.last + passed) % 8) (h : choice (with_last m last) ≡ some_chosen t d) where
  own : (issues_within m passed t ≡ (passed + d - 1) / 8) × (issues_within m (passed + d) t ≡ suc ((passed + d - 1) / 8))
  unfolding issues_within
  own =
      let f = (chooses (with_last m last) t d).0 h in
      let g = reaches passed d (between m t) f.low f.high (gap m.last passed last t d e f.place f.low) in
      (rw f.running g.0, rw f.running g.1)

  others : (u : ℕ) → u < 8 → (u ≡ t → ⊥) → issues_within m (passed + d) u ≡ issues_within m passed u
  unfolding issues_within
  others u l ne = go (runs m u) refl
    where
      go : (b : Bool) → runs m u ≡ b
          → cond b ((passed + d + 7 - between m u) / 8) 0 ≡ cond b ((passed + 7 - between m u) / 8) 0
      go true r =
          let f = (chooses (with_last m last) t d).0 h in
          let k = (u + 7 - last % 8) % 8 + 1 in
          let place : u ≡ (last + k) % 8 = omega arith in
          let not-nearer : k < d → ⊥ = λ near. never r (ap (runs m) place ∙ f.nearest k (omega arith) near) in
          let not-it : k ≡ d → ⊥ = λ same. ne (place ∙ ap (λ n. (last + n) % 8) same ∙ sym f.place) in
          misses passed d k (between m u) (farther k not-nearer not-it) (omega arith) (gap m.last passed last u k e place (omega arith))
        where
          farther : (k : ℕ) → (k < d → ⊥) → (k ≡ d → ⊥) → d < k
          farther k a b = omega arith
      go false r = refl

nothing-within : (m : Machine) (t : ℕ) → issues_within m 0 t ≡ 0
unfolding issues_within
nothing-within m t = go (runs m t)
  where
    go : (b : Bool) → cond b ((0 + 7 - between m t) / 8) 0 ≡ 0
    go true = omega arith
    go false = refl

pub rounds-counted : RoundsCounted
rounds-counted =
    record {
      size = λ m passed turns. with-length (issues_within m passed) turns;
      none = λ m turns. with_none (issues_within m 0) turns (nothing-within m);
      had = λ m turns passed last t d eight e h.
          let l = ((chooses (with_last m last) t d).0 h).place in
          with_at (issues_within m passed) turns t (omega arith) ∙ ap (λ n. many_more n (get_or turns t 0)) (own m passed last t d e h).0;
      one_more = λ m turns passed last t d eight e h.
          let l = ((chooses (with_last m last) t d).0 h).place in
          let f = own m passed last t d e h in
          with-one-more (issues_within m passed) (issues_within m (passed + d)) turns t (omega arith) (f.1 ∙ ap suc (sym f.0))
          (λ u k ne. others m passed last t d e h u (omega arith) ne);
    }
