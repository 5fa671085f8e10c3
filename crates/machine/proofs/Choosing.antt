-- The thread chosen is the nearest that runs, and the lowest set bit of the mask that goes round.
use Prim.Native.Nat.{ℕ, suc, ◌+◌, ◌-◌, ◌*◌, ◌/◌, ◌%◌, ◌^◌, ◌<◌, ◌≤◌}
use mathlib.Core.Bool.{Bool, true, false, cond}
use Rattle.std.specs.Prelude.{Option, Some, None}
use mathlib.Core.Path.{◌≡◌, refl, sym, ap, subst, ◌∙◌}
use native.Mathlib.Omega.{arith}
use borrow.Author.Tests.{ltb-true}
use lib.Count.{count_trailing_zeros}
use lib.Dec.{ltb}
use Rattle.machine.specs.Claims.{FirstAfterLast, Chooses, ChoosesNone, Turned}
use Rattle.machine.specs.Machine.{thread_numbers}
use Rattle.machine.specs.Scheduler.{runs, after, some_chosen, chosen_at, choice, after_choice, choose}
use Rattle.machine.specs.Search.{first, mask_of}
use Rattle.machine.specs.Types.{Machine, Chosen, Turn}
use Rattle.machine.proofs.Loops.{from}
use Rattle.machine.proofs.Nearest.{Nowhere, Found, found, lowest, first-at, first-nowhere, mask_of-lt, mask_of-odd, mask_of-nowhere, nowhere-mask_of, mask_of-shift, first-lowest, mask_of-same}

-- the thread at a distance runs
abbrev pub runs_after : Machine → ℕ → Bool
runs_after m distance = runs m (after m distance)

-- the choice by the search through the distances
pub choice-at : (m : Machine) {found : Option ℕ} → first (runs_after m) (from 1 8) ≡ found → choice m ≡ chosen_at m found
unfolding choice from
choice-at m e = ap (chosen_at m) e

-- no thread runs exactly if none does at any distance
pub none_after : (m : Machine) → Nowhere (runs m) 0 8 → Nowhere (runs_after m) 1 8
none_after m h d a b = h (after m d) (omega arith) (omega arith)

pub none_runs : (m : Machine) → Nowhere (runs_after m) 1 8 → Nowhere (runs m) 0 8
none_runs m h t a b =
    let d = (t + 7 - m.last % 8) % 8 + 1 in
    let e : after m d ≡ t = omega arith in
    sym (ap (runs m) e) ∙ h d (omega arith) (omega arith)

-- the mask of the running threads, and what stands ahead of "last" in it
abbrev pub mask : Machine → ℕ
mask m = mask_of (runs m) thread_numbers

pub mask-small : (m : Machine) → mask m ≤ 255
unfolding from
mask-small m = let l = mask_of-lt (runs m) 0 8 in omega arith

abbrev pub ahead : Machine → ℕ
ahead m = mask m * 257 / 2 ^ (m.last % 8 + 1)

twice : (m : Machine) → mask m * 257 ≡ mask_of (λ t. runs m (t % 8)) (from 0 16)
unfolding mask_of from
twice m = omega arith

ahead-mask_of : (m : Machine) → ahead m ≡ mask_of (runs_after m) (from 1 (8 + (7 - m.last % 8)))
ahead-mask_of m =
    let l = m.last % 8 in
    let e : 16 ≡ (l + 1) + (8 + (7 - l)) = omega arith in
    ap (λ x. x / 2 ^ (l + 1)) (twice m ∙ ap (λ n. mask_of (λ t. runs m (t % 8)) (from 0 n)) e)
    ∙ (mask_of-shift (λ t. runs m (t % 8)) (l + 1) 0 (8 + (7 - l))
    ∙ mask_of-same (λ t. runs m (t % 8)) (runs_after m) (0 + (l + 1)) 1 (8 + (7 - l)) (λ j. ap (runs m) (omega arith)))

-- where no bit is set none is chosen, and else the thread of the lowest one
pub nothing-set : (m : Machine) → mask m ≡ 0 → choice m ≡ None
unfolding from
nothing-set m h = choice-at m (first-nowhere (runs_after m) 1 8 (none_after m (mask_of-nowhere (runs m) 0 8 h)))

unfoldable pub zeros : Machine → ℕ
zeros m = count_trailing_zeros 32 (ahead m)

pub one_set : (m : Machine) → (mask m ≡ 0 → ⊥) → (zeros m < 8) × (choice m ≡ some_chosen (after m (zeros m + 1)) (zeros m + 1))
unfolding zeros lowest from
one_set m h =
    go (ltb (zeros m) 8) refl
    (first-lowest (runs_after m) 1 8 (7 - m.last % 8) 32 (omega arith) ∙ ap (λ x. lowest 1 8 (count_trailing_zeros 32 x)) (sym (ahead-mask_of m)))
  where
    go : (b : Bool) → ltb (zeros m) 8 ≡ b → first (runs_after m) (from 1 8) ≡ cond b (Some (1 + zeros m)) None
        → (zeros m < 8) × (choice m ≡ some_chosen (after m (zeros m + 1)) (zeros m + 1))
    go true e f = (ltb-true (zeros m) 8 e, choice-at m f ∙ ap (λ d. some_chosen (after m d) d) (omega arith))
    go false e f = absurd (h (nowhere-mask_of (runs m) 0 8 (none_runs m (subst (Found (runs_after m) 1 8) f (found (runs_after m) 1 8)))))

-- The claims.

-- what the search found, by what is chosen
was-found : (m : Machine) (t d : ℕ) (r : Option ℕ) → chosen_at m r ≡ some_chosen t d → (r ≡ Some d) × (t ≡ after m d)
was-found m t d None h = cc
was-found m t d (Some k) h =
    let same : record { thread = after m k; distance = k } ≡ record { thread = t; distance = d } = cc in
    let e : k ≡ d = ap (λ (c : Chosen). c.distance) same in
    (ap Some e, sym (ap (λ (c : Chosen). c.thread) same) ∙ ap (after m) e)

none_found : (m : Machine) (r : Option ℕ) → chosen_at m r ≡ None → r ≡ None
none_found m None h = refl
none_found m (Some k) h = cc

pub chooses : Chooses
chooses m t d = (there, back)
  where
    there : choice m ≡ some_chosen t d → FirstAfterLast m t d
    there h =
        let e = was-found m t d (first (runs_after m) (from 1 8)) (sym (choice-at m refl) ∙ h) in
        let f = subst (Found (runs_after m) 1 8) e.0 (found (runs_after m) 1 8) in
        record {
          low = f.0.after;
          high = omega (arith, f.1);
          place = e.1;
          running = ap (runs m) e.1 ∙ f.0.passes;
          nearest = f.0.before;
        }

    back : FirstAfterLast m t d → choice m ≡ some_chosen t d
    back h =
        choice-at m
        (first-at (runs_after m) 1 8 d (record { after = h.low; passes = ap (runs m) (sym h.place) ∙ h.running; before = h.nearest }) (omega (arith, h.high)))
        ∙ ap (λ u. some_chosen u d) (sym h.place)

pub chooses_none : ChoosesNone
chooses_none m = (there, back)
  where
    there : choice m ≡ None → (t : ℕ) → t < 8 → runs m t ≡ false
    there h t l =
        let e = none_found m (first (runs_after m) (from 1 8)) (sym (choice-at m refl) ∙ h) in
        none_runs m (subst (Found (runs_after m) 1 8) e (found (runs_after m) 1 8)) t (omega arith) (omega arith)

    back : ((t : ℕ) → t < 8 → runs m t ≡ false) → choice m ≡ None
    back h = choice-at m (first-nowhere (runs_after m) 1 8 (none_after m (λ t a b. h t (omega arith))))

-- a thread runs whose bit is set
pub bit-runs : (m : Machine) (t : ℕ) → t < 8 → mask m / 2 ^ t % 2 ≡ 1 → runs m t ≡ true
unfolding from
bit-runs m t l e =
    let a : 8 ≡ t + suc (7 - t) = omega arith in
    let f : mask m / 2 ^ t ≡ mask_of (runs m) (from (0 + t) (suc (7 - t))) =
    ap (λ n. mask_of (runs m) (from 0 n) / 2 ^ t) a ∙ mask_of-shift (runs m) t 0 (suc (7 - t)) in
    let g : 0 + t ≡ t = omega arith in
    go (runs m t) (sym (ap (λ k. cond (runs m k) 1 0) g) ∙ sym (mask_of-odd (runs m) (0 + t) (7 - t)) ∙ sym (ap (λ n. n % 2) f) ∙ e)
  where
    go : (b : Bool) → ◌≡◌ {A = ℕ} (cond b 1 0) 1 → b ≡ true
    go true e = refl
    go false e = absurd (omega arith)

-- the thread after "last" runs: it is chosen
pub following : (m : Machine) (t : ℕ) → t ≡ (m.last % 8 + 1) % 8 → mask m / 2 ^ t % 2 ≡ 1 → choice m ≡ some_chosen t 1
following m t e one =
    (chooses m t 1).1
    (record {
      low = omega arith;
      high = omega arith;
      place = omega arith;
      running = bit-runs m t (omega arith) one;
      nearest = λ j a b. absurd (omega arith);
    })

pub turned : Turned
unfolding choose
turned m r e c f =
    let q : choice m ≡ c = sym (ap (λ (x : Turn). x.choice) e) ∙ f in
    (q, ap (λ (x : Turn). x.machine) e ∙ ap (after_choice m) q)
