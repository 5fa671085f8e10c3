-- A run from a record's bytes: the call and the run below are refused with the same number.
use Prim.Native.Nat.{ℕ}
use mathlib.Core.Bool.{true}
use mathlib.Core.List.{List}
use mathlib.Core.Option.{Option, none}
use mathlib.Core.Path.{◌≡◌, ap, ◌∙◌}
use native.Mathlib.Omega.{arith}
use lib.ListN.{length}
use Rattle.std.proofs.Common.{Result, Ok, Err}
use Rattle.answer.specs.Answer.{given}
use Rattle.answer.specs.Refusal.{first_that_applies, lengths_number}
use Rattle.answer.specs.declared.refusal.Refusal.{Refusal}
use Rattle.image.proofs.Openings.{opening-well-formed}
use Rattle.image.specs.Image.{machine_in}
use Rattle.image.specs.Opening.{no_blocks, opening_number}
use Rattle.interpreter.specs.Choosing.{ending_at, reached}
use Rattle.interpreter.specs.Refusal.{run_number as interpreter_number}
use Rattle.interpreter.specs.Run.{number, outcome, run, run_answer}
use Rattle.interpreter.specs.declared.outcome.Run.{Run}
use Rattle.machine.specs.State.{State}
use Rattle.machine.specs.WellFormed.{well_formed}
use Rattle.machine.specs.declared.record.Machine.{Machine}
use Rattle.capi.specs.Demand.{held_in}
use Rattle.capi.specs.Runs.{called, done}

-- the outcome of a run
pub run-answer : (p : List ℕ) (b : ℕ) (s : State) → number p s ≡ none → (run p b s).answer ≡ given (ending_at (reached p b s))
unfolding run run_answer
run-answer p b s h = rw h

module _ (p registers memory opening : List ℕ) (h : opening_number opening ≡ none) where
  abbrev lengths : Option ℕ
  lengths = lengths_number (length p) (length registers) (length memory)

  pub held-well-formed : well_formed (machine_in no_blocks opening) ≡ true
  held-well-formed = opening-well-formed opening h

  pub held_number : number p (held_in registers memory opening) ≡ lengths
  unfolding interpreter_number lengths_number first_that_applies
  held_number = rw held-well-formed

-- what is handed back of a run that is not refused
pub run-called : (p : List ℕ) (b : ℕ) (s : State) (r : Result Run Refusal) (m : Machine) (registers memory opening : List ℕ) → number p s ≡ none
    → outcome r m registers memory ≡ run p b s → called r registers memory opening ≡ done (run p b s)
run-called p b s (Ok r) m registers memory opening h e = ap done e
run-called p b s (Err x) m registers memory opening h e =
    let f = ap (λ o. o.answer) e ∙ run-answer p b s h in
    absurd (let z : ◌≡◌ {A = ℕ} 0 1 = cc in omega arith)
