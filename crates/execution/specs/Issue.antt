-- One issue of a thread (document 01, "One issue").
use Rattle.std.specs.Prelude.{◌≡◌, ℕ, ◌/◌, Bool, true, false, cond, ◌&&◌, List, length, ◌==◌, nat_le, nat_lt, slice_index}
use Rattle.answer.specs.Reason.{undefined-word, outside-program, not-fitted-word}
use Rattle.answer.specs.Answer.{Answer, given, refused, undefined}
use Rattle.isa.specs.Read.{read}
use Rattle.machine.specs.Barrier.{reach_barrier}
use Rattle.machine.specs.Machine.{trap, end}
use Rattle.execution.specs.Access.{access}
use Rattle.execution.specs.Control.{control}
use Rattle.execution.specs.Effect.{Fate, Stays, Traps, Ends, ReachesBarrier, context, Executed, trapped, next, advanced, beside}
use Rattle.execution.specs.Immediate.{move_immediate}
use Rattle.execution.specs.Jump.{in_program, jump}
use Rattle.execution.specs.Operation.{operate_r, operate_i}
use Rattle.execution.specs.Registers.{program_counter}
use Rattle.answer.specs.Refusal.{program_words, register_words}
use Rattle.machine.specs.State.{State, state}
use Rattle.execution.specs.Types.{Context, Instruction, R, I, Movei, J, C, M, Issued, Machine, BarrierResult}

-- what an instruction does
abbrev pub execute : Context → List ℕ → List ℕ → Instruction → Executed
execute c regs memory (R op flags d a b) = beside (next c (operate_r regs c.thread op flags d a b)) memory
execute c regs memory (I op flags d a immediate) = beside (next c (operate_i regs c.thread op flags d a immediate)) memory
execute c regs memory (Movei op flag d immediate) = beside (next c (move_immediate regs c.thread op (flag == 1) d immediate)) memory
execute c regs memory (J op register offset) = beside (jump c regs op register offset) memory
execute c regs memory (C op first second) = beside (control c regs op first second) memory
execute c regs memory (M op register base offset) = access c regs memory op register base offset

-- "undefined word (3); not fitted (6)"
abbrev pub unreadable : ℕ → ℕ
unreadable number = cond (number == undefined) undefined-word not-fitted-word

-- "undefined word (3); not fitted (6); then those of the operation"
abbrev pub execute_read : Context → List ℕ → List ℕ → Answer Instruction → Executed
execute_read c regs memory (given i) = execute c regs memory i
execute_read c regs memory (refused number) = beside (trapped (unreadable number) regs) memory

unfoldable pub execute_word : Context → List ℕ → List ℕ → ℕ → Executed
execute_word c regs memory w = execute_read c regs memory (read w)

-- "Else s63 moves on and the thread waits": not where the meeting traps
abbrev pub after_barrier : Context → List ℕ → BarrierResult → List ℕ
after_barrier c regs met = cond met.trapped regs (advanced c regs)

-- what becomes of the machine record
abbrev pub settle : Machine → Context → List ℕ → List ℕ → Fate → State
settle m c regs memory Stays = state m regs memory
settle m c regs memory (Traps reason) = state (trap m c.thread reason) regs memory
settle m c regs memory Ends = state (end m c.thread) regs memory
settle m c regs memory (ReachesBarrier id second) =
    state (reach_barrier m c.thread id second).machine (after_barrier c regs (reach_barrier m c.thread id second)) memory

abbrev pub settled : Machine → Context → Executed → State
settled m c x = settle m c x.registers x.memory x.effect

-- whether a status in it is set: by a trap, an end or a barrier
abbrev pub sets_status : Fate → Bool
sets_status Stays = false
sets_status (Traps reason) = true
sets_status Ends = true
sets_status (ReachesBarrier id second) = true

-- both as the code hands them back, whatever data memory holds
pub record Settles (m : Machine) (c : Context) (regs : List ℕ) (e : Fate) (r : Issued) (after : List ℕ) : Type 0 where
  pub left : (memory : List ℕ) → state r.machine after memory ≡ settle m c regs memory e
  pub told : r.changed ≡ sets_status e

-- "The word is at the thread's s63."
abbrev pub context_of : List ℕ → State → ℕ → ℕ → Context
context_of p s t turns = context t (program_counter s.registers t) s.machine.enabled (length p) turns

abbrev pub execute_at : List ℕ → State → Context → Executed
execute_at p s c = execute_word c s.registers s.memory (slice_index p (c.pc / 4))

-- "Checks, in order: s63 not a multiple of 4, or at or past the program's end (reason 4); .."
abbrev pub perform_at : List ℕ → State → Context → State
perform_at p s c =
    cond (in_program c.words c.pc)
    (settled s.machine c (execute_at p s c))
    (state (trap s.machine c.thread outside-program) s.registers s.memory)

-- one issue of a thread that is "last" already and has had so many turns; this one is counted by `issued` (interpreter, Choosing)
unfoldable pub perform : List ℕ → State → ℕ → ℕ → State
perform p s t turns = perform_at p s (context_of p s t turns)

-- whether it sets a status
abbrev pub perform_sets_status_at : List ℕ → State → Context → Bool
perform_sets_status_at p s c = cond (in_program c.words c.pc) (sets_status (execute_at p s c).effect) true

unfoldable pub perform_sets_status : List ℕ → State → ℕ → ℕ → Bool
perform_sets_status p s t turns = perform_sets_status_at p s (context_of p s t turns)

-- whether the lengths and the thread are such as a run that is not refused comes to
abbrev pub fits : ℕ → ℕ → ℕ → Bool
fits words regs t = nat_le words program_words && regs == register_words && nat_lt t 8

-- the same for any lengths and any thread number: elsewhere nothing changes
unfoldable pub issue : List ℕ → State → ℕ → ℕ → State
issue p s t turns = cond (fits (length p) (length s.registers) t) (perform p s t turns) s

unfoldable pub issue_sets_status : List ℕ → State → ℕ → ℕ → Bool
issue_sets_status p s t turns = cond (fits (length p) (length s.registers) t) (perform_sets_status p s t turns) false
