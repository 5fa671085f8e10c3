-- A refused run is answered as it is.
use Rattle.std.proofs.lemmas.Result.{err_from_is_err_and}
use Rattle.capi_trace.proofs.filling.begin.Goals as goal

pub returns-in_err-run : goal.returns-in_err-run
returns-in_err-run c =
    let p = err_from_is_err_and c.from_residual.result c.from_residual.ensures.1 in
    rw (p.1, p.2) c.in_err-run.ensures
