-- Moves of an immediate into a register (document 01, "The words", MOVEI).
use Rattle.std.specs.Prelude.{ℕ, ◌+◌, ◌*◌, ◌/◌, ◌%◌, ◌^◌, Bool, cond, List}
use Rattle.vector.specs.Lanes.{tab, lane}
use Rattle.execution.specs.Registers.{scalar, vector, with_scalar, with_lanes_on}
use Rattle.execution.specs.Types.{MoveiOp, Low, High, Whole}

-- "0 moveil replaces the low half, 1 moveih the high half, 2 movei sets the value": the number read, which of movei has its sign in the
-- high half
abbrev pub replaced : MoveiOp → ℕ → ℕ → ℕ
replaced Low old n = old / 2 ^ 16 * 2 ^ 16 + n
replaced High old n = n * 2 ^ 16 + old % 2 ^ 16
replaced Whole old n = n

unfoldable pub replaced_lanes : MoveiOp → List ℕ → ℕ → List ℕ
replaced_lanes op old n = tab 16 (λ j. replaced op (lane old j) n)

unfoldable pub move_immediate : List ℕ → ℕ → MoveiOp → Bool → ℕ → ℕ → List ℕ
move_immediate regs t op flag d n =
    cond flag
    (with_lanes_on regs t d (replaced_lanes op (vector regs t d) n))
    (with_scalar regs t d (replaced op (scalar regs t d) n))
