-- What a filled list and its run are, as the exported call answers and leaves them.
use Prim.Native.Nat.{ℕ}
use mathlib.Core.List.{List}
use mathlib.Core.Option.{none}
use mathlib.Core.Path.{◌≡◌, ap, ◌∙◌}
use native.Mathlib.Omega.{arith}
use Rattle.std.specs.Prelude.{Result, Ok, Err}
use Rattle.answer.specs.Answer.{given, refused}
use Rattle.answer.specs.Refusal.{row_of, first_that_applies, lengths_number}
use Rattle.answer.specs.declared.refusal.Refusal.{Refusal}
use lib.ListN.{length}
use Rattle.image.proofs.Openings.{opening-well-formed}
use Rattle.image.specs.Image.{machine_in}
use Rattle.interpreter.specs.Refusal.{run_number as interpreter_number}
use Rattle.capi.specs.Runs.{called}
use Rattle.image.specs.Opening.{no_blocks, opening_number}
use Rattle.interpreter.specs.Choosing.{ending_at, reached}
use Rattle.interpreter.specs.Run.{outcome, number, run_answer, run}
use Rattle.interpreter.specs.declared.outcome.Run.{Run}
use Rattle.machine.specs.State.{State, state}
use Rattle.machine.specs.declared.record.Machine.{Machine}
use Rattle.capi_trace.specs.Calls.{Filled, filled, filling, traced_ran, trace_done}

-- the outcome of a run that is not refused
run-answer : (p : List ℕ) (b : ℕ) (s : State) → number p s ≡ none → (run p b s).answer ≡ given (ending_at (reached p b s))
unfolding run run_answer
run-answer p b s h = rw h

-- from the record that bytes hold, a run is refused for its lengths alone
pub held_number : (p registers memory opening : List ℕ) → opening_number opening ≡ none
    → number p (state (machine_in no_blocks opening) registers memory) ≡ lengths_number (length p) (length registers) (length memory)
unfolding interpreter_number lengths_number first_that_applies
held_number p registers memory opening h = rw (opening-well-formed opening h)

-- of a run that is not refused
pub trace-called : (p : List ℕ) (n : ℕ) (s : State) (lent : List ℕ) (r : Result Run Refusal) (m : Machine) (registers memory opening numbers : List ℕ)
    → number p s ≡ none → filled (outcome r m registers memory) numbers ≡ filling p n s lent
    → traced_ran (called r registers memory opening) numbers ≡ trace_done (filling p n s lent)
unfolding filling
trace-called p n s lent (Ok r) m registers memory opening numbers h e = ap trace_done e
trace-called p n s lent (Err x) m registers memory opening numbers h e =
    let f : refused (row_of x) ≡ given (ending_at (reached p n s)) = ap (λ (g : Filled). g.run.answer) e ∙ run-answer p n s h in
    absurd (let z : ◌≡◌ {A = ℕ} 0 1 = cc in omega arith)

-- with other names of the limit and the record
pub filling-same : (p registers memory numbers : List ℕ) {n k : ℕ} {m o : Machine} → n ≡ k → m ≡ o
    → filling p n (state m registers memory) numbers ≡ filling p k (state o registers memory) numbers
filling-same p registers memory numbers e f = λ i. filling p (e i) (state (f i) registers memory) numbers
