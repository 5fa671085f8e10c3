-- `scalar::store` meets its contract: the place is that of the definition, and what is written there too.
use Rattle.std.proofs.Common.{Ok, ap, ◌∙◌}
use Rattle.std.proofs.lemmas.Result.{err_from_is_err_and}
use Rattle.memory.specs.Attempt.{of_result}
use Rattle.memory.specs.Operation.{store_result, store}
use Rattle.memory.proofs.Places.{within, found}
use Rattle.memory.proofs.scalar.store.Goals as goal

pub returns-in_err-to : goal.returns-in_err-to
unfolding store
returns-in_err-to c =
    let p = err_from_is_err_and c.from_residual.result c.from_residual.ensures.1 in
    rw (found c.args.memory.now c.args.base c.args.offset c.bytes_stored-size.ensures c.locate.ensures ∙ ap of_result c.in_err-to.was)
    (rw (p.1, p.2))

pub write-requires : goal.write-requires
write-requires c = within _ _ _ _ (found c.args.memory.now c.args.base c.args.offset c.bytes_stored-size.ensures c.locate.ensures ∙ ap of_result c.in_ok-to.was)

pub returns : goal.returns
unfolding store
returns c =
    rw (found c.args.memory.now c.args.base c.args.offset c.bytes_stored-size.ensures c.locate.ensures ∙ ap of_result c.in_ok-to.was)
    (ap (store_result (Ok tt)) c.write.ensures)
