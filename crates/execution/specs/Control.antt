-- Control instructions (document 01, "The words", C).
use Rattle.std.specs.Prelude.{ℕ, cond, List, ◌==◌}
use Rattle.std.proofs.Math.Option.{Option, none, some}
use Rattle.answer.specs.Reason.{not-fitted-word}
use Rattle.execution.specs.Effect.{Step, step, trapped, next, advanced, Ends, ReachesBarrier}
use Rattle.execution.specs.Registers.{scalar, with_scalar}
use Rattle.execution.specs.Types.{Context, ControlOp, Barrier, Readcr, End}

-- "0 and 1 give 0, 2 and 3 the thread number, 6 the enabled mask, 9 s63, 14 gives 8; any other number traps with 6."
-- "Service staff want KERNEL_WORK, control register 16. .. readcr 16 gives the value before its own issue." (02, T-05)
unfoldable pub control_register : Context → ℕ → Option ℕ
control_register c number =
    cond (number == 0) (some 0)
    (cond (number == 1) (some 0)
    (cond (number == 2) (some c.thread)
    (cond (number == 3) (some c.thread)
    (cond (number == 6) (some c.enabled)
    (cond (number == 9) (some c.pc)
    (cond (number == 14) (some 8)
    (cond (number == 16) (some c.turns)
    none)))))))

abbrev pub read_into : Context → List ℕ → ℕ → Option ℕ → Step
read_into c regs d none = trapped not-fitted-word regs
read_into c regs d (some x) = next c (with_scalar regs c.thread d x)

-- "1 readcr: into the first, the control register whose number the second register's value is"
unfoldable pub read_control : Context → List ℕ → ℕ → ℕ → Step
read_control c regs first second = read_into c regs first (control_register c (scalar regs c.thread second))

-- "0 barrier: id in the first, count less one in the second. .. 2 end: both registers 0; status ended."
abbrev pub control : Context → List ℕ → ControlOp → ℕ → ℕ → Step
control c regs Barrier first second = step (ReachesBarrier (scalar regs c.thread first) (scalar regs c.thread second)) regs
control c regs Readcr first second = read_control c regs first second
control c regs End first second = step Ends (advanced c regs)
