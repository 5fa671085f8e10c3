-- `total::set_vector` meets its contract: step j writes lane j at its place in the registers.
use Rattle.std.proofs.Common.{rules}
use Rattle.execution.specs.Registers.{with_vector}
use Rattle.memory.proofs.Stepping.{start, more, whole}
use Rattle.execution.proofs.total.set_vector.Goals as goal

pub loop-j-preserved : goal.loop-j-preserved
loop-j-preserved c = more c.loop-j.invariant (search rules) (search rules) (search rules)

pub returns : goal.returns
unfolding with_vector
returns c = whole c.loop-j.invariant (search rules)

pub loop-j-init : goal.loop-j-init
loop-j-init c = start _ _ _
