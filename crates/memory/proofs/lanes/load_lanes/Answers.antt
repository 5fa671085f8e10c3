-- `lanes::load_lanes` meets its contract: the lanes are those at the place of the definition.
use Rattle.std.proofs.Common.{Ok, sym, ap, ◌∙◌}
use Rattle.std.proofs.lemmas.Result.{err_from_is_err_and}
use Rattle.memory.specs.Operation.{of_lanes, load_lanes}
use Rattle.memory.specs.Attempt.{of_result}
use Rattle.memory.proofs.Places.{within}
use Rattle.memory.proofs.lanes.load_lanes.Goals as goal

pub returns-in_err-from : goal.returns-in_err-from
unfolding load_lanes
returns-in_err-from c =
    let p = err_from_is_err_and c.from_residual.result c.from_residual.ensures.1 in
    rw (sym c.locate.ensures ∙ ap of_result c.in_err-from.was) (rw (p.1, p.2))

pub read_lanes-requires : goal.read_lanes-requires
read_lanes-requires c = within _ _ _ _ (sym c.locate.ensures ∙ ap of_result c.in_ok-from.was)

pub returns : goal.returns
unfolding load_lanes
returns c =
    rw (sym c.locate.ensures ∙ ap of_result c.in_ok-from.was)
    (ap (λ l. of_lanes (Ok l)) c.read_lanes.ensures)
