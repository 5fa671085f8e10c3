-- What an instruction gives and leaves (document 01, "One issue").
use Rattle.std.specs.Prelude.{ℕ, ◌+◌, List, Result, Ok, Err}
use Rattle.answer.specs.declared.reason.Reason.{Reason}
use Rattle.answer.specs.Reason.{reason_of}
use Rattle.execution.specs.Registers.{with_program_counter}
use Rattle.execution.specs.declared.effect.Effect.{Effect}
use Rattle.execution.specs.declared.effect.Effect.TheVariants as V
use Rattle.execution.specs.Types.{Context}

-- what becomes of a thread by an instruction: it goes on, traps with a reason, ends, or meets others at a barrier, of which this is the id
-- and the count less one
pub data Fate : Type 0 where
  Stays : Fate
  Traps : ℕ → Fate
  Ends : Fate
  ReachesBarrier : ℕ → ℕ → Fate

-- The cases of the code's answers: of any instruction,
abbrev pub fate_of : Result Effect Reason → Fate
fate_of (Ok V.Stays) = Stays
fate_of (Ok V.Ends) = Ends
fate_of (Ok (V.ReachesBarrier id second)) = ReachesBarrier id second
fate_of (Err reason) = Traps (reason_of reason)

-- and of one that goes on or traps.
abbrev pub passed : Result Unit Reason → Fate
passed (Ok _) = Stays
passed (Err reason) = Traps (reason_of reason)

-- what becomes of the thread, and the registers
pub record Step : Type 0 where
  pub effect : Fate
  pub registers : List ℕ

abbrev pub step : Fate → List ℕ → Step
step e r = record { effect = e; registers = r }

-- the same with data memory
pub record Executed : Type 0 where
  pub effect : Fate
  pub registers : List ℕ
  pub memory : List ℕ

abbrev pub executed : Fate → List ℕ → List ℕ → Executed
executed e r m = record { effect = e; registers = r; memory = m }

abbrev pub beside : Step → List ℕ → Executed
beside s memory = executed s.effect s.registers memory

-- "A trap changes only that entry's status and "last"", and its count (02, T-05)
abbrev pub trapped : ℕ → List ℕ → Step
trapped reason regs = step (Traps reason) regs

-- what an issue is told: its thread, the word's own address, the enabled mask, how many words the program has, and how many turns the
-- thread has had before it
abbrev pub context : ℕ → ℕ → ℕ → ℕ → ℕ → Context
context t pc enabled words turns = record { thread = t; pc = pc; enabled = enabled; words = words; turns = turns }

-- "Otherwise s63 grows by 4 unless a jump says more."
abbrev pub advanced : Context → List ℕ → List ℕ
advanced c regs = with_program_counter regs c.thread (c.pc + 4)

abbrev pub next : Context → List ℕ → Step
next c regs = step Stays (advanced c regs)
