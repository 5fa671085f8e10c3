-- What a tick hands back, as the exported call answers and leaves it; and the call's number.
use Prim.Native.Nat.{ℕ}
use lib.Dec.{eqb}
use mathlib.Core.Bool.{not}
use mathlib.Core.List.{List, [], ◌∷◌}
use mathlib.Core.Option.{Option, none, some}
use mathlib.Core.Path.{◌≡◌, refl, sym, ap, ◌∙◌}
use lib.ListN.{length}
use Rattle.std.specs.Prelude.{Result, Ok, Err}
use Rattle.answer.specs.Refusal.{refused_or, length_checks, lengths_number}
use Rattle.answer.specs.declared.refusal.Refusal.{Refusal}
use Rattle.image.specs.Image.{machine_in}
use Rattle.image.specs.Opening.{no_blocks, opened, read_opening}
use Rattle.machine.specs.State.{state}
use Rattle.machine.specs.declared.record.Machine.{Machine}
use Rattle.night.specs.Refusal.{clock_number}
use Rattle.night.specs.Tick.{Outcome, outcome, tick}
use Rattle.night.specs.Types.{Kept}
use Rattle.night.specs.declared.outcome.Tick.{Tick}
use Rattle.capi.proofs.Verdicts.{lengths-refused, record-refused, all-accepted, machine-is}
use Rattle.capi.specs.Refusal.{run_number}
use Rattle.capi_night.specs.Calls.{kept_in, refused_tick, returned, handed, minute_number, minute_call}

-- by what the tick hands back
pub tick-returned : (r : Result Tick Refusal) (last : Kept) (m : Machine) (kept registers memory opening : List ℕ) {o : Outcome}
    → outcome r last m registers memory ≡ o → returned r kept registers memory opening ≡ handed kept opening o
unfolding handed
tick-returned (Ok r) last m kept registers memory opening e = ap (handed kept opening) e
tick-returned (Err x) last m kept registers memory opening e = ap (handed kept opening) e

module _ (program registers memory opening kept : List ℕ) (minute marked : ℕ) (last : Kept) (k : last ≡ kept_in kept) where
  abbrev clock : Option ℕ
  clock = clock_number (length memory) last minute

  abbrev number : Option ℕ
  number = minute_number program registers memory opening kept minute

  number-is : {c r : Option ℕ} → c ≡ clock → r ≡ run_number program registers memory opening → refused_or c some r ≡ number
  unfolding minute_number
  number-is e f = λ i. refused_or ((e ∙ ap (λ y. clock_number (length memory) y minute) k) i) some (f i)

  refused-as : (n : ℕ) → some n ≡ number → refused_tick n kept registers memory opening ≡ minute_call program registers memory opening kept minute marked
  unfolding minute_call
  refused-as n e = rw (← e)

  pub clock-refused : (n : ℕ) → some n ≡ clock → refused_tick n kept registers memory opening ≡ minute_call program registers memory opening kept minute marked
  clock-refused n e = refused-as n (number-is e refl)

  module _ (c : none ≡ clock) where
    pub run-refused : (n : ℕ) → some n ≡ run_number program registers memory opening
        → refused_tick n kept registers memory opening ≡ minute_call program registers memory opening kept minute marked
    run-refused n e = refused-as n (number-is c e)

    pub tick-taken : {m : Machine} → none ≡ run_number program registers memory opening → m ≡ machine_in no_blocks opening
        → handed kept opening (tick program (state m registers memory) last minute (not (eqb marked 0)))
        ≡ minute_call program registers memory opening kept minute marked
    unfolding minute_call
    tick-taken e f =
        rw (← number-is c e)
        (λ i. handed kept opening (tick program (state (f i) registers memory) (k i) minute (not (eqb marked 0))))
