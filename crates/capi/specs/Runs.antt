-- A start and a run, with the machine record as bytes.
use Rattle.std.specs.Prelude.{ℕ, ◌/◌, ◌%◌, ◌^◌, List, [], ◌∷◌, Result, Ok, Err}
use Rattle.answer.specs.Refusal.{row_of, refused_or}
use Rattle.answer.specs.declared.refusal.Refusal.{Refusal}
use Rattle.machine.specs.State.{state}
use Rattle.image.specs.Image.{machine_in}
use Rattle.image.specs.Opening.{no_blocks, record_bytes}
use Rattle.interpreter.specs.Run.{Outcome, run_outcome, run}
use Rattle.interpreter.specs.declared.outcome.Run.{Run}
use Rattle.interpreter.specs.Start.{Beginning, start}
use Rattle.capi.specs.Answer.{number_of, ending_of}
use Rattle.capi.specs.Refusal.{run_number}

-- what a start answers and leaves: the register file, and the bytes of the record
pub record Begun : Type 0 where
  pub answer : ℕ
  pub registers : List ℕ
  pub opening : List ℕ

abbrev pub begun : ℕ → List ℕ → List ℕ → Begun
begun answer registers opening = record { answer = answer; registers = registers; opening = opening }

-- "start and image reading, which get none, hand back a record with every number 0"
abbrev pub beginning : Beginning → Begun
beginning b = begun (number_of b.answer) b.registers (record_bytes b.machine)

unfoldable pub start_call : ℕ → List ℕ → Begun
start_call mask registers = beginning (start mask registers)

-- what a run answers and leaves: its result, the register file, the memory, and the bytes of the record
pub record Ran : Type 0 where
  pub answer : ℕ
  pub result : List ℕ
  pub registers : List ℕ
  pub memory : List ℕ
  pub opening : List ℕ

abbrev pub ran : ℕ → List ℕ → List ℕ → List ℕ → List ℕ → Ran
ran answer result registers memory opening =
    record { answer = answer; result = result; registers = registers; memory = memory; opening = opening }

-- the result: how it ended, its issues, and how many entries it looked at, the low half first
abbrev pub result_of : Outcome → List ℕ
result_of o = ending_of o.answer ∷ o.issues ∷ o.looks % 2 ^ 32 ∷ o.looks / 2 ^ 32 ∷ []

abbrev pub no_result : List ℕ
no_result = 0 ∷ 0 ∷ 0 ∷ 0 ∷ []

abbrev pub done : Outcome → Ran
done o = ran 0 (result_of o) o.left.registers o.left.memory (record_bytes o.left.machine)

-- the same by the code's result: one that is refused leaves the bytes that it got
abbrev pub called : Result Run Refusal → List ℕ → List ℕ → List ℕ → Ran
called (Ok r) registers memory opening = done (run_outcome r registers memory)
called (Err refusal) registers memory opening = ran (row_of refusal) no_result registers memory opening

-- "A refusal changes no lent buffer and hands back the record it got"; "A refused run reports 0 issues"; and of looks "a refused call
-- reports 0" (02, T-13)
unfoldable pub run_call : List ℕ → ℕ → List ℕ → List ℕ → List ℕ → Ran
run_call program budget registers memory opening =
    refused_or (run_number program registers memory opening)
    (λ number. ran number no_result registers memory opening)
    (done (run program budget (state (machine_in no_blocks opening) registers memory)))
