-- Demand 3 (document 00, 3) for a board: a list of calls of korvammel_run, with the machine record as bytes.
use Rattle.std.specs.Prelude.{ℕ, ◌+◌, ◌*◌, ◌^◌, cond, List, [], ◌∷◌, map, ◌≡◌, eqb, get_or}
use Rattle.std.proofs.Math.Option.{none}
use Rattle.answer.specs.Answer.{given, refused}
use Rattle.image.specs.Claims.{Bytes}
use Rattle.image.specs.Image.{machine_in}
use Rattle.image.specs.Opening.{no_blocks, opening_number}
use Rattle.interpreter.specs.Answer.{Ending, stopped, stuck, spent}
use Rattle.interpreter.specs.Demand.{Call, Demand, enabled_threads}
use Rattle.interpreter.specs.Run.{Outcome}
use Rattle.machine.specs.State.{State, state}
use Rattle.capi.specs.Runs.{Ran, run_call}

-- a call of korvammel_run: "Program and budget may differ from call to call", and what it answered and left
pub record RunCall : Type 0 where
  pub program : List ℕ
  pub budget : ℕ
  pub ran : Ran

-- the machine that lent registers, memory and a record's bytes hold
abbrev pub held_in : List ℕ → List ℕ → List ℕ → State
held_in registers memory opening = state (machine_in no_blocks opening) registers memory

-- Each call kept what its contract promises, from these buffers.
-- "The rest of the machine a call gets as the last one handed it back or left it"
abbrev pub RunCalls : List RunCall → List ℕ → List ℕ → List ℕ → Type 0
RunCalls [] registers memory opening = Unit {0}
RunCalls (c ∷ cs) registers memory opening =
    (c.ran ≡ run_call c.program c.budget registers memory opening) × RunCalls cs c.ran.registers c.ran.memory c.ran.opening

-- how a run ended, as its first result says it: 1 stopped, 2 stuck, 3 spent
abbrev pub ending_in : ℕ → Ending
ending_in n = cond (eqb n 1) stopped (cond (eqb n 2) stuck spent)

-- what a call answered and left, as a board reads it
abbrev pub told : Ran → Outcome
told r =
    record {
      answer = cond (eqb r.answer 0) (given (ending_in (get_or r.result 0 0))) (refused r.answer);
      issues = get_or r.result 1 0;
      looks = get_or r.result 2 0 + 2 ^ 32 * get_or r.result 3 0;
      left = held_in r.registers r.memory r.opening;
    }

abbrev pub as_call : RunCall → Call
as_call c = record { program = c.program; budget = c.budget; outcome = told c.ran }

-- Whatever the register file and memory, and for every record whose bytes (bytes by their type) are accepted, demand 3 holds of the list.
abbrev pub BoardDemandHolds : Type 0
BoardDemandHolds = (calls : List RunCall) (registers memory opening : List ℕ) → Bytes opening → opening_number opening ≡ none
    → RunCalls calls registers memory opening
    → Demand (map as_call calls) (held_in registers memory opening) (enabled_threads (machine_in no_blocks opening))
