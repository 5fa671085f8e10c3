-- `lanes::store_lanes` meets its contract: the lanes are stored at the place of the definition.
use Rattle.std.proofs.Common.{Ok, sym, ap, ◌∙◌}
use Rattle.std.proofs.lemmas.Result.{err_from_is_err_and}
use Rattle.memory.specs.Operation.{store_result, store_lanes}
use Rattle.memory.specs.Attempt.{of_result}
use Rattle.memory.proofs.Places.{within}
use Rattle.memory.proofs.lanes.store_lanes.Goals as goal

pub returns-in_err-to : goal.returns-in_err-to
unfolding store_lanes
returns-in_err-to c =
    let p = err_from_is_err_and c.from_residual.result c.from_residual.ensures.1 in
    rw (sym c.locate.ensures ∙ ap of_result c.in_err-to.was) (rw (p.1, p.2))

pub write_lanes-requires : goal.write_lanes-requires
write_lanes-requires c = within _ _ _ _ (sym c.locate.ensures ∙ ap of_result c.in_ok-to.was)

pub returns : goal.returns
unfolding store_lanes
returns c =
    rw (sym c.locate.ensures ∙ ap of_result c.in_ok-to.was)
    (ap (store_result (Ok tt)) c.write_lanes.ensures)
