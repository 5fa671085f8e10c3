-- Which number of the table a call gives back (document 01, "Numbers given back").
use Rattle.std.specs.Prelude.{ℕ, Bool, not, List, [], ◌∷◌, ◌++◌}
use Rattle.std.proofs.Math.Option.{Option}
use Rattle.answer.specs.Answer.{bad-registers, bad-record, bad-mask}
use Rattle.answer.specs.Refusal.{bad_registers, bad_mask, Check, check, first_that_applies, length_checks}
use Rattle.machine.specs.WellFormed.{well_formed}
use Rattle.interpreter.specs.Types.{Machine}

-- "machine record is not well formed, a number in it is out of range"
abbrev pub bad_record : Machine → Bool
bad_record m = not (well_formed m)

abbrev pub record_checks : Machine → List Check
record_checks m = check bad-record (bad_record m) ∷ []

unfoldable pub record_number : Machine → Option ℕ
record_number m = first_that_applies (record_checks m)

-- a start takes a mask, and a register file of so many words
unfoldable pub start_number : ℕ → ℕ → Option ℕ
start_number mask regs = first_that_applies (check bad-registers (bad_registers regs) ∷ check bad-mask (bad_mask mask) ∷ [])

-- a run takes a program and a register file of so many words, a memory of so many bytes, and a record
unfoldable pub run_number : ℕ → ℕ → ℕ → Machine → Option ℕ
run_number words regs bytes m = first_that_applies (length_checks words regs bytes ++ record_checks m)
