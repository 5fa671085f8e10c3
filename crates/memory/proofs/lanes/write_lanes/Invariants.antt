-- `lanes::write_lanes` meets its contract: step j stores lane j, if it is on.
use mathlib.Core.Bool.{cond}
use Prim.Native.Nat.{◌+◌, ◌-◌, ◌*◌}
use Rattle.vector.specs.Lanes.{lane, is_on}
use Rattle.little_endian.specs.Numbers.{with_number}
use Rattle.memory.proofs.Stepping.{Stepping}
use Rattle.memory.proofs.lanes.write_lanes.Given as goal

abbrev pub invariant-loop-j : goal.invariant-loop-j
invariant-loop-j l = Stepping 16 (λ k xs. cond (is_on l.mask k) (with_number 4 xs (l.a + 4 * k) (lane l.fn.v k)) xs) l.initial.memory l.memory l.j
