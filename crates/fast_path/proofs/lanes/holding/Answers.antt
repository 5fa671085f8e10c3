-- `lanes::holding` meets its contract: bit j is filled by the answer of lane j.
use Rattle.std.proofs.Common.{ap, ◌∙◌, ap₂, rules}
use Rattle.compares.proofs.LaneFlags.{start, more, whole}
use Rattle.compares.specs.Outcome.{flags_of, answers_of}
use Rattle.fast_path.proofs.lanes.holding.Goals as goal

pub loop-j-preserved : goal.loop-j-preserved
loop-j-preserved c = more c.loop-j.invariant (search rules) (c.flags.ensures ∙ ap flags_of c.compare.ensures)

pub returns : goal.returns
unfolding answers_of
returns c =
    whole c.loop-j.invariant (search rules)
    ∙ ap₂ (answers_of c.args.op) c.vector-x.ensures c.vector-y.ensures

pub loop-j-init : goal.loop-j-init
loop-j-init c = start _
