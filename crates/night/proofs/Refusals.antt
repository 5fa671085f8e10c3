-- Which number a call gives, by its tests in order.
use Prim.Native.Nat.{ℕ, ◌≤◌}
use mathlib.Core.Bool.{Bool, true, false, cond}
use mathlib.Core.List.{List}
use mathlib.Core.Option.{Option, none, some}
use mathlib.Core.Path.{◌≡◌, refl}
use native.Mathlib.Omega.{arith}
use borrow.Author.Tests.{ltb-false}
use lib.ListN.{length}
use Rattle.answer.specs.Refusal.{first_that_applies, refused_or}
use Rattle.machine.specs.State.{State}
use Rattle.interpreter.specs.Run.{number}
use Rattle.night.specs.Refusal.{small_memory, bad_minute, clock_number, tick_number}
use Rattle.night.specs.Types.{Kept}

-- Before the run.

module _ (bytes : ℕ) (kept : Kept) (minute : ℕ) where
  pub clock-taken : clock_number bytes kept minute ≡ none → (128 ≤ bytes) × (bad_minute kept minute ≡ false)
  unfolding clock_number first_that_applies
  clock-taken h = let r = go (small_memory bytes) (bad_minute kept minute) h in (ltb-false bytes 128 r.0, r.1)
    where
      go : (small bad : Bool) → cond {A = Option ℕ} small (some 20) (cond bad (some 19) none) ≡ none → (small ≡ false) × (bad ≡ false)
      go false false e = (refl, refl)
      go true bad e = absurd (let z : ◌≡◌ {A = ℕ} 0 1 = cc in omega arith)
      go false true e = absurd (let z : ◌≡◌ {A = ℕ} 0 1 = cc in omega arith)

-- And of the run.

module _ (p : List ℕ) (s : State) (kept : Kept) (minute : ℕ) where
  pub clock-number : (n : ℕ) → clock_number (length s.memory) kept minute ≡ some n → some n ≡ tick_number p s kept minute
  unfolding tick_number
  clock-number n h = rw h

  pub run-number : clock_number (length s.memory) kept minute ≡ none → number p s ≡ tick_number p s kept minute
  unfolding tick_number
  run-number h = rw h

-- what a call that is not refused has
pub record Taken (p : List ℕ) (s : State) (kept : Kept) (minute : ℕ) : Type 0 where
  pub memory : 128 ≤ length s.memory
  pub minutes : bad_minute kept minute ≡ false
  pub run : number p s ≡ none

pub tick-taken : (p : List ℕ) (s : State) (kept : Kept) (minute : ℕ) → tick_number p s kept minute ≡ none → Taken p s kept minute
unfolding tick_number
tick-taken p s kept minute h =
    let r = go (clock_number (length s.memory) kept minute) (number p s) h in
    let c = clock-taken (length s.memory) kept minute r.0 in
    record { memory = c.0; minutes = c.1; run = r.1 }
  where
    go : (clock run : Option ℕ) → refused_or clock some run ≡ none → (clock ≡ none) × (run ≡ none)
    go none run e = (refl, e)
    go (some n) run e = absurd (let z : ◌≡◌ {A = ℕ} 0 1 = cc in omega arith)
