-- `total::set_vector` meets its contract: step j writes lane j at its place in the registers.
use Rattle.std.proofs.Common.{set}
use Rattle.vector.specs.Lanes.{lane}
use Rattle.machine.specs.State.{lane_index}
use Rattle.memory.proofs.Stepping.{Stepping}
use Rattle.execution.proofs.total.set_vector.Given as goal

abbrev pub invariant-loop-j : goal.invariant-loop-j
invariant-loop-j l = Stepping 16 (λ k xs. set xs (lane_index l.t l.i k) (lane l.fn.v k)) l.initial.regs l.regs l.j
