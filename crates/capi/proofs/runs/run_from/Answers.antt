-- `runs::run_from` meets its contract: by the verdicts.
use mathlib.Core.Path.{sym, ap, ◌∙◌}
use lib.ListN.{length}
use Rattle.std.proofs.lemmas.Result.{err_from_is_err_and}
use Rattle.answer.specs.Refusal.{row_of, refused_or, length_checks, lengths_number}
use Rattle.interpreter.specs.Run.{run}
use Rattle.machine.specs.Machine.{zeroed}
use Rattle.machine.specs.State.{state}
use Rattle.capi.specs.Demand.{held_in}
use Rattle.capi.specs.Refusal.{run_number}
use Rattle.capi.specs.Runs.{ran, done, no_result, run_call}
use Rattle.capi.proofs.Running.{held_number, run-called}
use Rattle.capi.proofs.Verdicts.{lengths-refused, record-refused, opening-none, all-accepted, machine-is}
use Rattle.capi.proofs.runs.run_from.Goals as goal

pub returns-in_err-lengths_verdict : goal.returns-in_err-lengths_verdict
unfolding run_call run_number lengths_number
returns-in_err-lengths_verdict c =
    let a = c.args in
    let p = err_from_is_err_and c.from_residual.result c.from_residual.ensures.1 in
    let n = row_of c.in_err-lengths_verdict.field-0.0 in
    let k = length_checks (length a.program.now) (length a.registers.now) (length a.memory.now) in
    let s = held_in a.registers.now a.memory.now a.bytes.now in
    rw (p.1, p.2) (ap (λ o. refused_or o (λ n. ran n no_result a.registers.now a.memory.now a.bytes.now) (done (run a.program.now a.budget s))) (lengths-refused k a.bytes.now n c.in_err-lengths_verdict.ensures))

pub returns-in_err-machine : goal.returns-in_err-machine
unfolding run_call run_number lengths_number
returns-in_err-machine c =
    let a = c.args in
    let p = err_from_is_err_and c.from_residual-in_err-machine.result c.from_residual-in_err-machine.ensures.1 in
    let n = row_of c.in_err-machine.field-0.0 in
    let k = length_checks (length a.program.now) (length a.registers.now) (length a.memory.now) in
    let s = held_in a.registers.now a.memory.now a.bytes.now in
    rw (p.1, p.2) (ap (λ o. refused_or o (λ n. ran n no_result a.registers.now a.memory.now a.bytes.now) (done (run a.program.now a.budget s))) (record-refused k a.bytes.now c.in_ok-lengths_verdict.ensures n zeroed c.in_err-machine.ensures))

pub returns : goal.returns
unfolding run_call run_number lengths_number
returns c =
    let a = c.args in
    let m = c.in_ok-machine.machine in
    let k = length_checks (length a.program.now) (length a.registers.now) (length a.memory.now) in
    let s = held_in a.registers.now a.memory.now a.bytes.now in
    let h = c.in_ok-lengths_verdict.ensures in
    let b = c.in_ok-machine.ensures in
    let o = c.run.ensures ∙ ap (λ m. run a.program.now a.budget (state m a.registers.now a.memory.now)) (machine-is k a.bytes.now h m b) in
    let none = held_number a.program.now a.registers.now a.memory.now a.bytes.now (opening-none k a.bytes.now h m b) ∙ sym h in
    run-called a.program.now a.budget s c.run.result m _ _ a.bytes.now none o
    ∙ ap (λ o. refused_or o (λ n. ran n no_result a.registers.now a.memory.now a.bytes.now) (done (run a.program.now a.budget s))) (all-accepted k a.bytes.now h m b)
