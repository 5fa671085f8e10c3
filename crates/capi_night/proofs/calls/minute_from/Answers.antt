-- By the verdicts on the clock, the lengths and the record's bytes.
use Rattle.std.proofs.lemmas.Result.{err_from_is_err_and}
use lib.ListN.{length}
use mathlib.Core.Path.{◌∙◌}
use Rattle.answer.specs.Refusal.{length_checks, lengths_number}
use Rattle.capi.proofs.Verdicts.{lengths-refused, record-refused, all-accepted, machine-is}
use Rattle.capi.specs.Refusal.{run_number}
use Rattle.capi_night.proofs.Handed.{tick-returned, clock-refused, run-refused, tick-taken}
use Rattle.capi_night.proofs.calls.minute_from.Goals as goal

pub returns-in_err-clock_verdict : goal.returns-in_err-clock_verdict
returns-in_err-clock_verdict c =
    let a = c.args in
    let p = err_from_is_err_and c.from_residual.result c.from_residual.ensures.1 in
    rw (p.1, p.2)
    (clock-refused a.program.now a.registers.now a.memory.now a.bytes.now a.kept.now a.minute a.marked _ c.kept_in-last.ensures _ c.in_err-clock_verdict.ensures)

pub returns-in_err-lengths_verdict : goal.returns-in_err-lengths_verdict
unfolding run_number lengths_number
returns-in_err-lengths_verdict c =
    let a = c.args in
    let k = length_checks (length a.program.now) (length a.registers.now) (length a.memory.now) in
    let p = err_from_is_err_and c.from_residual-in_err-lengths_verdict.result c.from_residual-in_err-lengths_verdict.ensures.1 in
    rw (p.1, p.2)
    (run-refused a.program.now a.registers.now a.memory.now a.bytes.now a.kept.now a.minute a.marked _ c.kept_in-last.ensures c.in_ok-clock_verdict.ensures _
    (lengths-refused k a.bytes.now _ c.in_err-lengths_verdict.ensures))

pub returns-in_err-machine : goal.returns-in_err-machine
unfolding run_number lengths_number
returns-in_err-machine c =
    let a = c.args in
    let k = length_checks (length a.program.now) (length a.registers.now) (length a.memory.now) in
    let p = err_from_is_err_and c.from_residual-in_err-machine.result c.from_residual-in_err-machine.ensures.1 in
    rw (p.1, p.2)
    (run-refused a.program.now a.registers.now a.memory.now a.bytes.now a.kept.now a.minute a.marked _ c.kept_in-last.ensures c.in_ok-clock_verdict.ensures _
    (record-refused k a.bytes.now c.in_ok-lengths_verdict.ensures _ _ c.in_err-machine.ensures))

pub returns : goal.returns
unfolding run_number lengths_number
returns c =
    let a = c.args in
    let k = length_checks (length a.program.now) (length a.registers.now) (length a.memory.now) in
    let taken = c.in_ok-lengths_verdict.ensures in
    let opening = c.in_ok-machine.ensures in
    tick-returned c.tick.result _ _ a.kept.now _ _ a.bytes.now c.tick.ensures
    ∙ tick-taken a.program.now a.registers.now a.memory.now a.bytes.now a.kept.now a.minute a.marked _ c.kept_in-last.ensures c.in_ok-clock_verdict.ensures
    (all-accepted k a.bytes.now taken _ opening) (machine-is k a.bytes.now taken _ opening)
