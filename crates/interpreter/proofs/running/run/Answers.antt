-- `running::run` meets its contract.
use Rattle.std.proofs.Common.{◌≡◌, sym, ◌∙◌}
use Rattle.std.proofs.Math.Option.{none}
use Rattle.std.proofs.lemmas.Result.{err_from_is_err_and}
use Rattle.answer.specs.Refusal.{row_of}
use Rattle.machine.specs.State.{State, state}
use Rattle.interpreter.specs.Run.{number}
use Rattle.interpreter.proofs.Refusals.{run-taken, taken-words, taken-regs, taken-last, run-refused, run-accepted}
use Rattle.interpreter.proofs.running.run.Goals as goal

-- refused
pub returns-in_err-run_verdict : goal.returns-in_err-run_verdict
returns-in_err-run_verdict c =
    let a = c.args in
    let s : State = state a.machine a.registers.now a.memory.now in
    let p = err_from_is_err_and c.from_residual.result c.from_residual.ensures.1 in
    rw (p.1, p.2) (run-refused a.program.now a.budget s (row_of c.in_err-run_verdict.field-0.0) (sym c.in_err-run_verdict.ensures))

pub make_issues-requires : goal.make_issues-requires
make_issues-requires c =
    let k = run-taken _ _ _ _ (sym c.in_ok-run_verdict.ensures) in
    (taken-words _ _ _ _ k, taken-regs _ _ _ _ k, taken-last _ _ _ _ k)

-- not refused
pub returns : goal.returns
returns c =
    let a = c.args in
    let s : State = state a.machine a.registers.now a.memory.now in
    let e : number a.program.now s ≡ none = sym c.in_ok-run_verdict.ensures in
    c.make_issues.ensures ∙ run-accepted a.program.now a.budget s e
