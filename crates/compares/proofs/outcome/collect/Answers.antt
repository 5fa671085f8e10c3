-- `outcome::collect` meets its contract: the first j bits are those of the answers, whatever they are.
use Rattle.std.proofs.Common.{rules}
use Rattle.compares.proofs.LaneFlags.{start, more, whole}
use Rattle.compares.proofs.outcome.collect.Goals as goal

pub loop-j-init : goal.loop-j-init
loop-j-init g c = λ f h. start f

pub loop-j-preserved : goal.loop-j-preserved
loop-j-preserved g c = λ f h. more (c.loop-j.invariant f h) (search rules) (h c.loop-j.j _ (search rules) c.flags_at.ensures)

pub returns : goal.returns
returns g c = λ f h. whole (c.loop-j.invariant f h) (search rules)
