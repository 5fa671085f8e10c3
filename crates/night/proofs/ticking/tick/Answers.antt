-- `ticking::tick` meets its contract: by the clock's number, or by that of a run with no budget, which changes nothing.
use Rattle.std.proofs.Common.{refl, sym, ◌∙◌}
use Rattle.std.proofs.lemmas.Result.{err_from_is_err_and}
use Rattle.answer.specs.Refusal.{row_of}
use Rattle.machine.specs.State.{State, state}
use Rattle.night.specs.Refusal.{tick_number}
use Rattle.night.proofs.Refusals.{clock-number, run-number}
use Rattle.night.proofs.Ticks.{tick-refused, tick-accepted, told-refused, told-none}
use Rattle.night.proofs.ticking.tick.Goals as goal

pub returns-in_err-clock_verdict : goal.returns-in_err-clock_verdict
returns-in_err-clock_verdict c =
    let a = c.args in
    let s : State = state a.machine a.registers.now a.memory.now in
    let p = err_from_is_err_and c.from_residual.result c.from_residual.ensures.1 in
    let n = row_of c.in_err-clock_verdict.field-0.0 in
    rw (p.1, p.2)
    (tick-refused a.program.now s a.kept a.minute a.marked _ _ refl refl n
    (sym (clock-number a.program.now s a.kept a.minute n (sym c.in_err-clock_verdict.ensures))))

pub returns-in_err-run : goal.returns-in_err-run
returns-in_err-run c =
    let a = c.args in
    let s : State = state a.machine a.registers.now a.memory.now in
    let p = err_from_is_err_and c.from_residual-in_err-run.result c.from_residual-in_err-run.ensures.1 in
    let f = c.in_err-run.field-0.0 in
    let t = told-refused a.program.now s c.run.new.registers c.run.new.memory f c.in_err-run.ensures in
    let h = sym (run-number a.program.now s a.kept a.minute (sym c.in_ok-clock_verdict.ensures)) ∙ t.is in
    rw (p.1, p.2) (tick-refused a.program.now s a.kept a.minute a.marked _ _ t.registers-stay t.memory-stays (row_of f) h)

pub take_minute-requires : goal.take_minute-requires
take_minute-requires c =
    let a = c.args in
    let s : State = state a.machine a.registers.now a.memory.now in
    let t = told-none a.program.now s c.run.new.registers c.run.new.memory c.in_ok-run.field-0 c.in_ok-run.ensures in
    let h = sym (run-number a.program.now s a.kept a.minute (sym c.in_ok-clock_verdict.ensures)) ∙ t.is in
    (λ i. tick_number a.program.now (state a.machine (t.registers-stay i) (t.memory-stays i)) a.kept a.minute) ∙ h

pub returns : goal.returns
returns c =
    let a = c.args in
    let s : State = state a.machine a.registers.now a.memory.now in
    let t = told-none a.program.now s c.run.new.registers c.run.new.memory c.in_ok-run.field-0 c.in_ok-run.ensures in
    let h = sym (run-number a.program.now s a.kept a.minute (sym c.in_ok-clock_verdict.ensures)) ∙ t.is in
    tick-accepted a.program.now s a.kept a.minute a.marked _ _ t.registers-stay t.memory-stays _ h c.take_minute.ensures
