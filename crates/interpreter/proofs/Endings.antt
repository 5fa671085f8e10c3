-- How a run ends, by who runs and who waits in the record that it reaches.
use Prim.Native.Nat.{ℕ}
use mathlib.Core.Bool.{Bool, true, false, cond}
use mathlib.Core.Logic.{◌↔◌}
use mathlib.Core.Path.{◌≡◌, refl, ap}
use native.Mathlib.Omega.{arith}
use Rattle.answer.specs.Answer.{Answer, given, refused}
use Rattle.machine.proofs.Claims.{chooses, chooses_none}
use Rattle.machine.proofs.Tests.{never}
use Rattle.machine.proofs.Threads.{none-at, some-thread}
use Rattle.std.specs.Prelude.{Some, None}
use Rattle.machine.specs.Scheduler.{Choice, runs, waits, choice, some_waits}
use Rattle.interpreter.proofs.Issuing.{chosen-thread}
use Rattle.interpreter.specs.Answer.{Ending, stopped, stuck, spent}
use Rattle.interpreter.specs.Choosing.{if_chosen, reached, idle_ending, ending_at}
use Rattle.interpreter.specs.Claims.{NoThread, SomeThread, EndsBy, EndsByRecord}
use Rattle.interpreter.specs.Run.{run_reached, run_answer}
use Rattle.interpreter.specs.Types.{Machine}

-- two statements that both hold, and two that both fail
hold : {A B : Type 0} → A → B → A ↔ B
hold a b = (λ x. b, λ x. a)

fail : {A B : Type 0} → (A → ⊥) → (B → ⊥) → A ↔ B
fail a b = (λ x. absurd (a x), λ x. absurd (b x))

-- the endings differ
abbrev ordinal : Answer Ending → ℕ
ordinal (given stopped) = 1
ordinal (given stuck) = 2
ordinal (given spent) = 3
ordinal (refused number) = 0

differ : (a b : Ending) → (ordinal (given a) ≡ ordinal (given b) → ⊥) → given a ≡ given b → ⊥
differ a b n e = n (ap ordinal e)

not-both : {test : ℕ → Bool} → NoThread test → SomeThread test → ⊥
not-both none some = never some.2 (none some.0 some.1)

module _ (m : Machine) where
  idle : NoThread (runs m) → (w : Bool) → some_waits m ≡ w → EndsBy m (given (cond w stuck stopped))
  unfolding some_waits
  idle none true h =
      let some = some-thread (waits m) h in
      record {
        stuck-exactly = hold refl (none, some);
        stopped-exactly = fail (differ stuck stopped (λ z. omega arith)) (λ k. not-both k.1 some);
        spent-exactly = fail (differ stuck spent (λ z. omega arith)) (not-both none);
      }
  idle none false h =
      let quiet = none-at (waits m) h in
      record {
        stuck-exactly = fail (differ stopped stuck (λ z. omega arith)) (λ k. not-both quiet k.1);
        stopped-exactly = hold refl (none, quiet);
        spent-exactly = fail (differ stopped spent (λ z. omega arith)) (not-both none);
      }

  ending : (c : Choice) → choice m ≡ c → EndsBy m (given (if_chosen c (λ t. spent) (cond (some_waits m) stuck stopped)))
  ending (Some x) h =
      let some : SomeThread (runs m) = (x.thread, chosen-thread m x.thread x.distance h, ((chooses m x.thread x.distance).0 h).running) in
      record {
        stuck-exactly = fail (differ spent stuck (λ z. omega arith)) (λ k. not-both k.0 some);
        stopped-exactly = fail (differ spent stopped (λ z. omega arith)) (λ k. not-both k.0 some);
        spent-exactly = hold refl some;
      }
  ending None h = idle ((chooses_none m).0 h) (some_waits m) refl

pub ends-by-record : EndsByRecord
unfolding run_reached run_answer ending_at idle_ending
ends-by-record p b s h = rw h (ending (reached p b s).machine (choice (reached p b s).machine) refl)
