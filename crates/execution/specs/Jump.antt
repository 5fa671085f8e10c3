-- Jumps (document 01, "The words", J).
use Rattle.std.specs.Prelude.{ℕ, ◌+◌, ◌-◌, ◌*◌, ◌%◌, ◌^◌, Bool, cond, not, ◌&&◌, List, ◌==◌, nat_le, nat_lt}
use Rattle.answer.specs.Reason.{outside-program}
use Rattle.machine.specs.State.{link_register}
use Rattle.memory.specs.Place.{biased}
use Rattle.execution.specs.Effect.{Step, step, trapped, next, Stays}
use Rattle.execution.specs.Registers.{scalar, with_scalar, with_program_counter}
use Rattle.execution.specs.Types.{Context, JumpOp, Jmp, Jmpsr, Jret, Beqz, Bnez}

-- whether a program of so many words has one at an address: "not a multiple of 4, or at or past the program's end" is none
abbrev pub in_program : ℕ → ℕ → Bool
in_program words address = address % 4 == 0 && nat_lt address (4 * words)

-- "A taken target that is .. not a multiple of 4, or at or past the program's end traps with 4."
-- `linked` are the registers that the jump leaves, but for s63.
unfoldable pub jump_to : Context → List ℕ → List ℕ → ℕ → Step
jump_to c regs linked address =
    cond (in_program c.words address) (step Stays (with_program_counter linked c.thread address)) (trapped outside-program regs)

-- "A taken target that is negative .. traps with 4."; "signed byte offset 17-0 from the word's own address"
-- The target is held with 2^32 added to it, since it may be negative.
abbrev pub jump_over : Context → List ℕ → List ℕ → ℕ → Step
jump_over c regs linked target = cond (nat_le (2 ^ 32) target) (jump_to c regs linked (target - 2 ^ 32)) (trapped outside-program regs)

unfoldable pub jump_by : Context → List ℕ → List ℕ → ℕ → Step
jump_by c regs linked offset = jump_over c regs linked (biased c.pc offset)

-- "1 jmpsr (s62 becomes own address + 4; ..)"
abbrev pub linked : Context → List ℕ → List ℕ
linked c regs = with_scalar regs c.thread link_register (c.pc + 4)

-- "0 jmp, 1 jmpsr (..), 2 jret (to s62, ..), 5 beqz, 6 bnez"
abbrev pub jump : Context → List ℕ → JumpOp → ℕ → ℕ → Step
jump c regs Jmp register offset = jump_by c regs regs offset
jump c regs Jmpsr register offset = jump_by c regs (linked c regs) offset
jump c regs Jret register offset = jump_to c regs regs (scalar regs c.thread link_register)
jump c regs Beqz register offset = cond (scalar regs c.thread register == 0) (jump_by c regs regs offset) (next c regs)
jump c regs Bnez register offset = cond (not (scalar regs c.thread register == 0)) (jump_by c regs regs offset) (next c regs)
