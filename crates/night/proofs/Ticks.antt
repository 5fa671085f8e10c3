-- What a call makes of its runs, by what the interpreter promises of them.
use Prim.Native.Nat.{ℕ, ◌≤◌}
use mathlib.Core.Bool.{Bool}
use mathlib.Core.List.{List}
use mathlib.Core.Option.{Option, none, some}
use mathlib.Core.Path.{◌≡◌, refl, sym, ap, ◌∙◌}
use native.Mathlib.Omega.{arith}
use lib.ListN.{length}
use Rattle.std.specs.Prelude.{Result, Ok, Err, Some, IsOk}
use Rattle.answer.specs.Answer.{given, refused}
use Rattle.answer.specs.Refusal.{row_of}
use Rattle.machine.specs.State.{State, state}
use Rattle.interpreter.proofs.Claims.{runs-report, answers_number, no-budget}
use Rattle.interpreter.specs.Claims.{number_in}
use Rattle.interpreter.specs.Demand.{Reported}
use Rattle.interpreter.specs.Run.{outcome, number, run_reached, run, Refusal}
use Rattle.interpreter.specs.declared.outcome.Run.{Run}
use Rattle.night.specs.Answer.{report}
use Rattle.night.specs.Bytes.{with_reading, relays_in}
use Rattle.night.specs.Claims.{RunTaken}
use Rattle.night.specs.Clock.{skipped}
use Rattle.night.specs.Refusal.{tick_number}
use Rattle.night.specs.Tick.{Outcome, issues_per_minute, run_from, run_to, accepted, tick}
use Rattle.night.specs.Types.{Kept}
use Rattle.night.proofs.Refusals.{tick-taken}
use Rattle.night.proofs.Stored.{length-reading}

-- The run of a call that is not refused is not refused: memory is as long as it was.
pub run-taken : RunTaken
unfolding run_from
run-taken p s kept minute marked e =
    let t = tick-taken p s kept minute e in
    let h : 8 ≤ length s.memory = omega (arith, t.memory) in
    rw (length-reading s.memory minute (skipped kept minute marked) h) t.run

-- What a run with the result r of a program from a state reports and leaves, part by part.
module _ (p : List ℕ) (b : ℕ) (s : State) (r : Result Run Refusal) (registers memory : List ℕ) (h : outcome r s.machine registers memory ≡ run p b s) where
  reported : Reported (record { program = p; budget = b; outcome = outcome r s.machine registers memory }) s
  reported = runs-report (record { program = p; budget = b; outcome = outcome r s.machine registers memory }) s h

  left_is : (outcome r s.machine registers memory).left ≡ run_reached p b s
  left_is = reported.left

  number-told : number_in (outcome r s.machine registers memory).answer ≡ number p s
  number-told = ap number_in reported.answer ∙ answers_number p b s

-- A run that the table gives no number is not refused.
pub unrefused : (p : List ℕ) (b : ℕ) (s : State) (r : Result Run Refusal) (registers memory : List ℕ)
    → outcome r s.machine registers memory ≡ run p b s → number p s ≡ none → IsOk r
unrefused p b s (Ok r) registers memory h n = refl
unrefused p b s (Err f) registers memory h n = cc (number-told p b s (Err f) registers memory h, n)

-- A run with no budget changes nothing, and tells the number that the table gives any.
pub record Told (p : List ℕ) (s : State) (registers memory : List ℕ) (n : Option ℕ) : Type 0 where
  pub is : number p s ≡ n
  pub registers-stay : registers ≡ s.registers
  pub memory-stays : memory ≡ s.memory

module _ (p : List ℕ) (s : State) (registers memory : List ℕ) where
  pub told-refused : (f : Refusal) → outcome (Err f) s.machine registers memory ≡ run p 0 s → Told p s registers memory (some (row_of f))
  told-refused f h =
      let e = left_is p 0 s (Err f) registers memory h ∙ no-budget p s in
      record {
        is = sym (number-told p 0 s (Err f) registers memory h);
        registers-stay = ap (λ (x : State). x.registers) e;
        memory-stays = ap (λ (x : State). x.memory) e;
      }

  pub told-none : (r : Run) → outcome (Ok r) s.machine registers memory ≡ run p 0 s → Told p s registers memory none
  told-none r h =
      let e = left_is p 0 s (Ok r) registers memory h ∙ no-budget p s in
      record {
        is = sym (number-told p 0 s (Ok r) registers memory h);
        registers-stay = ap (λ (x : State). x.registers) e;
        memory-stays = ap (λ (x : State). x.memory) e;
      }

module _ (p : List ℕ) (s : State) (kept : Kept) (minute : ℕ) (marked : Bool) where
  -- A run from memory d, after which k and x are reported as skipped and relays.
  pub accepted-is : (k x : ℕ) (d : List ℕ) (r : Run) (registers memory : List ℕ) → k ≡ skipped kept minute marked
      → d ≡ with_reading s.memory minute k
      → outcome (Ok r) s.machine registers memory ≡ run p issues_per_minute (state s.machine s.registers d) → x ≡ relays_in memory
      → record { answer = given (report minute k x); kept = Some minute; left = state r.machine registers memory }
      ≡ accepted p s kept minute marked
  unfolding accepted run_to run_from
  accepted-is k x d r registers memory e f h g =
      let m : d ≡ with_reading s.memory minute (skipped kept minute marked) = f ∙ ap (with_reading s.memory minute) e in
      let l : state r.machine registers memory ≡ run_to p s kept minute marked =
      left_is p issues_per_minute (state s.machine s.registers d) (Ok r) registers memory h
      ∙ ap (λ z. run_reached p issues_per_minute (state s.machine s.registers z)) m in
      let y : x ≡ relays_in (run_to p s kept minute marked).memory = g ∙ ap (λ (z : State). relays_in z.memory) l in
      λ i. record { answer = given (report minute (e i) (y i)); kept = Some minute; left = l i }

  -- From what a verdict left of the register file and memory: all of it.
  module _ (registers memory : List ℕ) (e : registers ≡ s.registers) (f : memory ≡ s.memory) where
    pub tick-refused : (n : ℕ) → tick_number p s kept minute ≡ some n
        → record { answer = refused n; kept = kept; left = state s.machine registers memory } ≡ tick p s kept minute marked
    unfolding tick
    tick-refused n h = rw (h, e, f)

    pub tick-accepted : (o : Outcome) → tick_number p s kept minute ≡ none
        → o ≡ accepted p (state s.machine registers memory) kept minute marked → o ≡ tick p s kept minute marked
    unfolding tick
    tick-accepted o h g = rw h (g ∙ λ i. accepted p (state s.machine (e i) (f i)) kept minute marked)
