-- A call of the night box (document 02, T-14), with the machine record as bytes and the kept minute as two numbers.
use Rattle.std.specs.Prelude.{Result, Ok, Err, Some, None, ℕ, not, cond, List, [], ◌∷◌, eqb, length, get_or}
use Rattle.std.proofs.Math.Option.{Option, some}
use Rattle.answer.specs.Answer.{Answer, given, refused}
use Rattle.answer.specs.Refusal.{row_of, refused_or}
use Rattle.answer.specs.declared.refusal.Refusal.{Refusal}
use Rattle.machine.specs.State.{State, state}
use Rattle.image.specs.Image.{machine_in}
use Rattle.image.specs.Opening.{no_blocks, record_bytes}
use Rattle.night.specs.Answer.{Report}
use Rattle.night.specs.Refusal.{clock_number}
use Rattle.night.specs.Tick.{Outcome, tick}
use Rattle.night.specs.Types.{Kept}
use Rattle.night.specs.declared.outcome.Tick.{Tick}
use Rattle.capi.specs.Refusal.{run_number}

-- the kept minute as two numbers: none where the first is 0, else the second
unfoldable pub kept_in : List ℕ → Kept
kept_in numbers = cond (eqb (get_or numbers 0 0) 0) None (Some (get_or numbers 1 0))

-- what a call answers and leaves: skipped minutes and relays, the kept minute, the register file, the memory, and the bytes of the record
pub record Ticked : Type 0 where
  pub answer : ℕ
  pub result : List ℕ
  pub kept : List ℕ
  pub registers : List ℕ
  pub memory : List ℕ
  pub opening : List ℕ

abbrev pub ticked : ℕ → List ℕ → List ℕ → List ℕ → List ℕ → List ℕ → Ticked
ticked answer result kept registers memory opening =
    record { answer = answer; result = result; kept = kept; registers = registers; memory = memory; opening = opening }

-- "after any of them memory and kept minute stay"
abbrev pub refused_tick : ℕ → List ℕ → List ℕ → List ℕ → List ℕ → Ticked
refused_tick number kept registers memory opening = ticked number (0 ∷ 0 ∷ []) kept registers memory opening

-- by the code's result: a call that is refused leaves the bytes that it got
abbrev pub returned : Result Tick Refusal → List ℕ → List ℕ → List ℕ → List ℕ → Ticked
returned (Ok r) kept registers memory opening =
    ticked 0 (r.skipped ∷ r.relays ∷ []) (1 ∷ r.minute ∷ []) registers memory (record_bytes r.machine)
returned (Err refusal) kept registers memory opening = refused_tick (row_of refusal) kept registers memory opening

abbrev pub answered_tick : Answer Report → List ℕ → List ℕ → State → Ticked
answered_tick (given r) kept opening s =
    ticked 0 (r.skipped ∷ r.relays ∷ []) (1 ∷ r.minute ∷ []) s.registers s.memory (record_bytes s.machine)
answered_tick (refused number) kept opening s = refused_tick number kept s.registers s.memory opening

-- what a tick hands back and leaves, from a kept minute and a record's bytes
unfoldable pub handed : List ℕ → List ℕ → Outcome → Ticked
handed kept opening o = answered_tick o.answer kept opening o.left

-- "20 .. first; 19 ..; then the run's 1, 2, 3, 4", and 10 before 4 of a record's bytes, as in a run
unfoldable pub minute_number : List ℕ → List ℕ → List ℕ → List ℕ → List ℕ → ℕ → Option ℕ
minute_number program registers memory opening kept minute =
    refused_or (clock_number (length memory) (kept_in kept) minute) some (run_number program registers memory opening)

-- any number but 0 marks the fall-back
unfoldable pub minute_call : List ℕ → List ℕ → List ℕ → List ℕ → List ℕ → ℕ → ℕ → Ticked
minute_call program registers memory opening kept minute marked =
    refused_or (minute_number program registers memory opening kept minute)
    (λ number. refused_tick number kept registers memory opening)
    (handed kept opening (tick program (state (machine_in no_blocks opening) registers memory) (kept_in kept) minute (not (eqb marked 0))))
