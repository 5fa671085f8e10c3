-- A refused run: the caller has the list that it lent.
use Rattle.std.proofs.lemmas.Result.{err_from_is_err_and}
use Rattle.std.proofs.Common.{ap, length}
use Rattle.machine.specs.State.{state}
use Rattle.trace.specs.Traced.{TracedRun, least, run_traced}
use Rattle.trace.proofs.Following.{refuses}
use Rattle.trace.proofs.page.run_page.Goals as goal

pub returns-in_err-run : goal.returns-in_err-run
unfolding run_traced
returns-in_err-run c =
    let a = c.args in
    let p = err_from_is_err_and c.from_residual.result c.from_residual.ensures.1 in
    rw (p.1, p.2)
    (refuses a.program.now (least a.budget (length a.rows)) (state a.machine a.registers.now a.memory.now) a.budget a.rows _ a.machine _ _
    (ap (λ (t : TracedRun). t.run) c.in_err-run.ensures))
