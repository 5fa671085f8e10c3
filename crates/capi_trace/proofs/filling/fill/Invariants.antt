-- `fill` meets its contract: page by page it follows the plain run.
use Prim.Native.Nat.{◌-◌}
use mathlib.Core.Path.{◌≡◌}
use lib.ListN.{length}
use Rattle.machine.specs.State.{state}
use Rattle.capi_trace.proofs.Pages.{Following}
use Rattle.capi_trace.proofs.filling.fill.Given as goal

-- the machine that the loop begins with is the one that `fill` began with
abbrev pub invariant-loop-left : goal.invariant-loop-left
invariant-loop-left l =
    Following l.program (state l.initial.run.machine l.initial.registers l.initial.memory) l.limit l.initial.numbers l.made l.run l.registers l.memory l.numbers
    × (length l.registers ≡ length l.initial.registers) × (length l.memory ≡ length l.initial.memory) × (length l.numbers ≡ length l.initial.numbers)

abbrev pub decreases-loop-left : goal.decreases-loop-left
decreases-loop-left l = l.limit - l.made
