-- What a call has of its lengths and numbers where the table gives it none, and what it then gives.
use Prim.Native.Nat.{ℕ, ◌<◌, ◌≤◌}
use mathlib.Core.Bool.{true, false}
use mathlib.Core.List.{List}
use mathlib.Core.Option.{none, some}
use mathlib.Core.Path.{◌≡◌}
use native.Mathlib.Omega.{arith}
use borrow.Author.Tests.{ltb-false, eqb-true, eqb-false, not-false}
use lib.Dec.{ltb, eqb}
use lib.ListN.{length}
use Rattle.answer.proofs.Checks.{passed}
use Rattle.answer.specs.Answer.{given, refused}
use Rattle.machine.specs.State.{State}
use Rattle.machine.proofs.Claims.{tested}
use Rattle.machine.proofs.Tests.{neither}
use Rattle.machine.specs.Machine.{zeroed, start as start_record}
use Rattle.machine.specs.WellFormed.{well_formed}
use Rattle.thread_entry.specs.Status.{limits}
use Rattle.answer.specs.Refusal.{bad_program, bad_registers, bad_memory, bad_mask, first_that_applies}
use Rattle.interpreter.specs.Refusal.{bad_record, start_number, run_number}
use Rattle.interpreter.specs.Run.{number, run_issues, run_reached, run_answer, run_looks, accepted_run, run}
use Rattle.interpreter.specs.Start.{zeroes, with_masks, start}
use Rattle.interpreter.specs.Types.{Machine}

-- A start.

pub record StartTaken (mask regs : ℕ) : Type 0 where
  pub registers : regs ≡ 8704
  pub low : 1 ≤ mask
  pub high : mask ≤ 255

pub start-taken : (mask regs : ℕ) → start_number mask regs ≡ none → StartTaken mask regs
unfolding start_number first_that_applies
start-taken mask regs h =
    let a = passed (bad_registers regs) 2 _ h in
    let b = passed (bad_mask mask) 5 none a.1 in
    let m = neither (eqb mask 0) (ltb 255 mask) b.0 in
    let z : mask ≡ 0 → ⊥ = eqb-false mask 0 m.0 in
    record { registers = eqb-true regs 8704 (not-false (eqb regs 8704) a.0); low = omega (arith, z); high = ltb-false 255 mask m.1 }

module _ (mask : ℕ) (regs : List ℕ) where
  pub start-refused : (n : ℕ) → start_number mask (length regs) ≡ some n
      → record { answer = refused n; machine = zeroed; registers = regs } ≡ start mask regs
  unfolding start
  start-refused n h = rw h

  pub start-accepted : start_number mask (length regs) ≡ none
      → record { answer = given tt; machine = start_record mask; registers = with_masks 8 (zeroes regs) } ≡ start mask regs
  unfolding start
  start-accepted h = rw h

-- A run.

pub record RunTaken (words regs bytes : ℕ) (m : Machine) : Type 0 where
  pub program : bad_program words ≡ false
  pub registers : bad_registers regs ≡ false
  pub memory : bad_memory bytes ≡ false
  pub well-formed : well_formed m ≡ true

module _ (words regs bytes : ℕ) (m : Machine) where
  pub run-taken : run_number words regs bytes m ≡ none → RunTaken words regs bytes m
  unfolding run_number first_that_applies
  run-taken h =
      let a = passed (bad_program words) 1 _ h in
      let b = passed (bad_registers regs) 2 _ a.1 in
      let c = passed (bad_memory bytes) 3 _ b.1 in
      let d = passed (bad_record m) 4 none c.1 in
      record { program = a.0; registers = b.0; memory = c.0; well-formed = not-false (well_formed m) d.0 }

  -- and the other way round
  pub taken-run : RunTaken words regs bytes m → run_number words regs bytes m ≡ none
  unfolding run_number first_that_applies
  taken-run k = rw (k.program, k.registers, k.memory, k.well-formed)

  module _ (k : RunTaken words regs bytes m) where
    pub taken-words : words ≤ 16384
    taken-words = ltb-false 16384 words (neither (eqb words 0) (ltb 16384 words) k.program).1

    pub taken-regs : regs ≡ 8704
    taken-regs = eqb-true regs 8704 (not-false (eqb regs 8704) k.registers)

    pub taken-last : m.last < 8
    taken-last = let w = (tested limits m).0 k.well-formed in omega (arith, w.last-range)

module _ (p : List ℕ) (b : ℕ) (s : State) where
  pub run-refused : (n : ℕ) → number p s ≡ some n → record { answer = refused n; issues = 0; looks = 0; left = s } ≡ run p b s
  unfolding run run_issues run_reached run_answer run_looks
  run-refused n h = rw h

  pub run-accepted : number p s ≡ none → accepted_run p b s ≡ run p b s
  unfolding run run_issues run_reached run_answer run_looks accepted_run
  run-accepted h = rw h
