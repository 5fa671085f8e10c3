-- Demand 3 holds of a list of calls of korvammel_run: read as a board reads it, it is a list of runs.
use Prim.Native.Nat.{ℕ, ◌+◌, ◌*◌, ◌/◌, ◌%◌, ◌<◌, ◌^◌}
use mathlib.Core.Bool.{Bool, true, false, cond}
use mathlib.Core.List.{List, [], ◌∷◌, map}
use mathlib.Core.Option.{Option, none, some}
use mathlib.Core.Path.{◌≡◌, refl, sym, ap, subst, ◌∙◌}
use native.Mathlib.Omega.{arith}
use lib.Dec.{eqb}
use lib.ListN.{length}
use Rattle.answer.specs.Answer.{given, refused}
use Rattle.answer.specs.Refusal.{bad_program, bad_registers, bad_memory, first_that_applies, refused_or}
use Rattle.image.proofs.Claims.{record-again}
use Rattle.image.proofs.Restored.{counts-bound}
use Rattle.image.proofs.Openings.{opening-machine, opening-well-formed}
use Rattle.answer.proofs.Checks.{first-after}
use Rattle.image.specs.Image.{machine_in}
use Rattle.image.specs.Opening.{no_blocks, record_bytes, opening_number, opening_checks, read_opening}
use Rattle.interpreter.proofs.Claims.{stays-well-formed, turns-counted, demand}
use Rattle.image.specs.Claims.{Words}
use Rattle.machine.proofs.Claims.{counts-kept}
use Rattle.machine.specs.Machine.{turns_at, turns_of}
use Rattle.interpreter.proofs.Refusals.{run-refused}
use Rattle.interpreter.specs.Answer.{Ending, stopped, stuck, spent}
use Rattle.interpreter.specs.Demand.{Session}
use Rattle.interpreter.specs.Run.{Outcome, run}
use Rattle.interpreter.specs.Choosing.{ending_at, reached}
use Rattle.machine.specs.State.{State, state}
use Rattle.machine.specs.WellFormed.{well_formed}
use Rattle.machine.specs.declared.record.Machine.{Machine}
use Rattle.capi.proofs.Running.{run-answer, held-well-formed, held_number}
use Rattle.capi.specs.Answer.{ending_of}
use Rattle.capi.specs.Demand.{RunCall, held_in, RunCalls, ending_in, told, as_call, BoardDemandHolds}
use Rattle.answer.specs.Refusal.{length_checks, lengths_number}
use Rattle.capi.specs.Refusal.{run_number}
use Rattle.capi.specs.Runs.{ran, done, no_result, run_call}

-- a record's bytes, written of a well-formed record, are accepted and hold it
module _ (m : Machine) (w : well_formed m ≡ true) (counts : Words (turns_of m)) where
  written-accepted : opening_number (record_bytes m) ≡ none
  unfolding read_opening
  written-accepted = ap (λ o. o.number) (record-again m w counts)

  written_held : machine_in no_blocks (record_bytes m) ≡ m
  written_held = sym (opening-machine (record_bytes m) written-accepted) ∙ ap (λ o. o.machine) (record-again m w counts)

-- an ending is read as it was written
ending-read : (e : Ending) → ending_in (ending_of (given e)) ≡ e
ending-read stopped = refl
ending-read stuck = refl
ending-read spent = refl

-- a number of looks is read as it was written
halves : (n : ℕ) → n % 2 ^ 32 + 2 ^ 32 * (n / 2 ^ 32) ≡ n
halves n = omega arith

-- what a call tells of a run that was made is that run's outcome
told-done : (o : Outcome) (e : Ending) → o.answer ≡ given e → well_formed o.left.machine ≡ true → Words (turns_of o.left.machine) → told (done o) ≡ o
told-done o e h w counts =
    let a : given (ending_in (ending_of o.answer)) ≡ o.answer = ap (λ x. given (ending_in (ending_of x))) h ∙ ap given (ending-read e) ∙ sym h in
    let m = written_held o.left.machine w counts in
    (λ i. record { answer = a i; issues = o.issues; looks = halves o.looks i; left = state (m i) o.left.registers o.left.memory })

-- the outcome of a run
run-well-formed : (p : List ℕ) (b : ℕ) (s : State) → well_formed s.machine ≡ true → well_formed (run p b s).left.machine ≡ true
unfolding run
run-well-formed p b s w = stays-well-formed p b s w

-- a run's counts are words, as those that it began with
counts-left : (p : List ℕ) (b : ℕ) (s : State) → Words (turns_of s.machine) → Words (turns_of (run p b s).left.machine)
counts-left p b s h t =
    let m = (run p b s).left.machine in
    let before : turns_at s.machine t < 2 ^ 32 = rw (← counts-kept.at s.machine t) (h t) in
    let after = turns-counted (record { program = p; budget = b; outcome = run p b s } ∷ []) s (refl, tt) t before in
    rw (counts-kept.at m t, after) (omega arith)

or-none : (o : Option ℕ) → refused_or o some none ≡ o
or-none none = refl
or-none (some n) = refl

-- no number of the table is 0, which a call answers that is not refused
not-zero : (words registers bytes n : ℕ) → lengths_number words registers bytes ≡ some n → eqb n 0 ≡ false
unfolding lengths_number first_that_applies
not-zero words registers bytes n = go (bad_program words) (bad_registers registers) (bad_memory bytes)
  where
    go : (x y z : Bool) → cond x (some 1) (cond y (some 2) (cond z (some 3) none)) ≡ some n → eqb n 0 ≡ false
    go true y z e = let f : 1 ≡ n = cc in subst (λ k. eqb k 0 ≡ false) f refl
    go false true z e = let f : 2 ≡ n = cc in subst (λ k. eqb k 0 ≡ false) f refl
    go false false true e = let f : 3 ≡ n = cc in subst (λ k. eqb k 0 ≡ false) f refl
    go false false false e = absurd (let z : ◌≡◌ {A = ℕ} 0 1 = cc in omega arith)

module _ (p : List ℕ) (b : ℕ) (registers memory opening : List ℕ) (h : opening_number opening ≡ none) (counts : Words (turns_of (machine_in no_blocks opening))) where
  abbrev held : State
  held = held_in registers memory opening

  abbrev lengths : Option ℕ
  lengths = lengths_number (length p) (length registers) (length memory)

  formed : well_formed (machine_in no_blocks opening) ≡ true
  formed = held-well-formed p registers memory opening h

  -- the call and the run are refused with the same number
  call-number : run_number p registers memory opening ≡ lengths
  unfolding run_number lengths_number opening_number
  call-number =
      first-after (length_checks (length p) (length registers) (length memory)) (opening_checks opening)
      ∙ ap (λ o. refused_or lengths some o) h ∙ or-none lengths

  told-run : told (run_call p b registers memory opening) ≡ run p b held
  unfolding run_call
  told-run = go lengths refl
    where
      go : (o : Option ℕ) → lengths ≡ o → told (run_call p b registers memory opening) ≡ run p b held
      go none e =
          ap (λ o. told (refused_or o (λ n. ran n no_result registers memory opening) (done (run p b held)))) (call-number ∙ e)
          ∙ told-done (run p b held) (ending_at (reached p b held)) (run-answer p b held (held_number p registers memory opening h ∙ e)) (run-well-formed p b held formed) (counts-left p b held counts)
      go (some n) e =
          ap (λ o. told (refused_or o (λ k. ran k no_result registers memory opening) (done (run p b held)))) (call-number ∙ e)
          ∙ ap (λ x. record { answer = cond x (given spent) (refused n); issues = 0; looks = 0; left = held }) (not-zero _ _ _ n e)
          ∙ run-refused p b held n (held_number p registers memory opening h ∙ e)

  -- the bytes that a call leaves are accepted
  left-accepted : opening_number (run_call p b registers memory opening).opening ≡ none
  unfolding run_call
  left-accepted = go lengths refl
    where
      go : (o : Option ℕ) → lengths ≡ o → opening_number (run_call p b registers memory opening).opening ≡ none
      go none e =
          rw (call-number ∙ e) (written-accepted (run p b held).left.machine (run-well-formed p b held formed) (counts-left p b held counts))
      go (some n) e = rw (call-number ∙ e) h

  -- and hold counts that are words
  left-counts : Words (turns_of (machine_in no_blocks (run_call p b registers memory opening).opening))
  unfolding run_call
  left-counts = go lengths refl
    where
      go : (o : Option ℕ) → lengths ≡ o → Words (turns_of (machine_in no_blocks (run_call p b registers memory opening).opening))
      go none e t =
          let m = (run p b held).left.machine in
          rw (call-number ∙ e, written_held m (run-well-formed p b held formed) (counts-left p b held counts)) (counts-left p b held counts t)
      go (some n) e t = rw (call-number ∙ e) (counts t)

session : (calls : List RunCall) (registers memory opening : List ℕ) → opening_number opening ≡ none → Words (turns_of (machine_in no_blocks opening))
    → RunCalls calls registers memory opening → Session (map as_call calls) (held_in registers memory opening)
session [] registers memory opening h counts k = tt
session (c ∷ cs) registers memory opening h counts k = (
  ap told k.0 ∙ told-run c.program c.budget registers memory opening h counts,
  session cs c.ran.registers c.ran.memory c.ran.opening
      (ap (λ r. opening_number r.opening) k.0 ∙ left-accepted c.program c.budget registers memory opening h counts)
      (λ t. rw (ap (λ r. r.opening) k.0) (left-counts c.program c.budget registers memory opening h counts t)) k.1,
)

pub board-demand : BoardDemandHolds
board-demand calls registers memory opening bytes h k =
    demand (map as_call calls) (held_in registers memory opening) (opening-well-formed opening h) (session calls registers memory opening h (counts-bound no_blocks opening bytes) k)
