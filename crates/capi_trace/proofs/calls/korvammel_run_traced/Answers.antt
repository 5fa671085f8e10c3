-- By what the run answered.
use Rattle.capi_trace.proofs.calls.korvammel_run_traced.Goals as goal

pub returns-in-Ok : goal.returns-in-Ok
returns-in-Ok c = rw (c.ending.ensures, c.write_record.ensures) c.in-Ok.ensures

pub returns-in-Err : goal.returns-in-Err
returns-in-Err c = rw c.number.ensures c.in-Err.ensures
