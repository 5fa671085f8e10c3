-- `scalar::load` meets its contract: the place is that of the definition, and what is read there too.
use Rattle.std.proofs.Common.{ap, ◌∙◌}
use Rattle.std.proofs.lemmas.Result.{err_from_is_err_and}
use Rattle.memory.specs.Attempt.{done, of_result}
use Rattle.memory.specs.Operation.{load}
use Rattle.memory.proofs.Places.{within, found}
use Rattle.memory.proofs.scalar.load.Goals as goal

pub returns-in_err-from : goal.returns-in_err-from
unfolding load
returns-in_err-from c =
    let p = err_from_is_err_and c.from_residual.result c.from_residual.ensures.1 in
    rw (found c.args.memory.now c.args.base c.args.offset c.bytes_loaded-size.ensures c.locate.ensures ∙ ap of_result c.in_err-from.was)
    (rw (p.1, p.2))

pub read-requires : goal.read-requires
read-requires c = within _ _ _ _ (found c.args.memory.now c.args.base c.args.offset c.bytes_loaded-size.ensures c.locate.ensures ∙ ap of_result c.in_ok-from.was)

pub returns : goal.returns
unfolding load
returns c =
    rw (found c.args.memory.now c.args.base c.args.offset c.bytes_loaded-size.ensures c.locate.ensures ∙ ap of_result c.in_ok-from.was)
    (ap done c.read.ensures)
