-- What a start makes (document 01, "What a machine holds").
use Rattle.std.specs.Prelude.{Result, Ok, Err, ℕ, zero, suc, List, map, length}
use Rattle.answer.specs.Answer.{Answer, given, refused}
use Rattle.execution.specs.Registers.{with_scalar}
use Rattle.machine.specs.Machine.{zeroed, start as start_record}
use Rattle.machine.specs.State.{lane_mask_register}
use Rattle.answer.specs.declared.refusal.Refusal.{Refusal}
use Rattle.answer.specs.Refusal.{row_of, refused_or}
use Rattle.interpreter.specs.Refusal.{start_number}
use Rattle.interpreter.specs.Types.{Machine}

-- "zeroes the register file"
abbrev pub zeroes : List ℕ → List ℕ
zeroes regs = map (λ word. 0) regs

-- "sets every s59 to 0xFFFF": of the first n threads
unfoldable pub with_masks : ℕ → List ℕ → List ℕ
with_masks zero regs = regs
with_masks (suc t) regs = with_scalar (with_masks t regs) t lane_mask_register 0xFFFF

-- what a start hands back and leaves
pub record Beginning : Type 0 where
  pub answer : Answer (Unit {0})
  pub machine : Machine
  pub registers : List ℕ

-- by the code's result, which has no record for a refusal: C is then handed one with every number 0
abbrev pub started : Result Machine Refusal → List ℕ → Beginning
started (Ok machine) regs = record { answer = given tt; machine = machine; registers = regs }
started (Err refusal) regs = record { answer = refused (row_of refusal); machine = zeroed; registers = regs }

-- "Start takes an enabled mask, zeroes the register file, sets every s59 to 0xFFFF, makes enabled threads running and last 7."
-- "A refusal changes no lent buffer .. start and image reading, which get none, hand back a record with every number 0."
unfoldable pub start : ℕ → List ℕ → Beginning
start mask regs =
    refused_or (start_number mask (length regs))
    (λ number. record { answer = refused number; machine = zeroed; registers = regs })
    (record { answer = given tt; machine = start_record mask; registers = with_masks 8 (zeroes regs) })
