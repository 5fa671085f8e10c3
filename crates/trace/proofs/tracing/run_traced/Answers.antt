-- What stays true from turn to turn is `Follows`.
use Rattle.std.proofs.lemmas.Result.{err_from_is_err_and}
use Rattle.std.proofs.Common.{length, sym, ◌∙◌}
use Rattle.machine.specs.State.{state}
use Rattle.trace.specs.Traced.{least}
use Rattle.trace.proofs.Following.{place, limited, begins, taken-next, follows_on, nearer, refuses, finishes}
use Rattle.trace.proofs.tracing.run_traced.Goals as goal

pub loop-registers-init : goal.loop-registers-init
loop-registers-init c =
    let a = c.args in
    begins a.program.now (state a.machine a.registers.now a.memory.now) (least a.budget (length a.rows.now)) a.rows.now _ _ _ c.in_ok-run.ensures

pub returns-in_err-run : goal.returns-in_err-run
returns-in_err-run c =
    let a = c.args in
    let p = err_from_is_err_and c.from_residual.result c.from_residual.ensures.1 in
    rw (p.1, p.2)
    (refuses a.program.now 0 (state a.machine a.registers.now a.memory.now) a.budget a.rows.now _ a.machine _ _ c.in_err-run.ensures)

pub advance-step-requires : goal.advance-step-requires
advance-step-requires c =
    let a = c.args in
    let l = c.loop-registers in
    taken-next a.program.now (state a.machine a.registers.now a.memory.now) (least a.budget (length a.rows.now)) a.rows.now
    (place l.run l.registers l.memory l.rows) l.invariant

pub loop-registers-preserved : goal.loop-registers-preserved
loop-registers-preserved c =
    let a = c.args in
    let l = c.loop-registers in
    let s = c.advance-step in
    rw c.put_row.ensures
    (follows_on a.program.now (state a.machine a.registers.now a.memory.now) (least a.budget (length a.rows.now)) a.rows.now
    (place l.run l.registers l.memory l.rows) (limited a.budget a.rows.now c.ranges.budget.fits) l.invariant
    (rw c.smaller-limit.ensures at (sym c.goes_on.ensures ∙ c.loop-registers-test.true)) s.result s.new.registers s.new.memory s.ensures)

pub loop-registers-smaller : goal.loop-registers-smaller
loop-registers-smaller c =
    let a = c.args in
    let l = c.loop-registers in
    let s = c.advance-step in
    nearer a.program.now (state a.machine a.registers.now a.memory.now) (least a.budget (length a.rows.now)) a.rows.now
    (place l.run l.registers l.memory l.rows) (limited a.budget a.rows.now c.ranges.budget.fits) l.invariant
    (rw c.smaller-limit.ensures at (sym c.goes_on.ensures ∙ c.loop-registers-test.true)) s.result s.new.registers s.new.memory s.ensures

pub returns : goal.returns
returns c =
    let a = c.args in
    let l = c.loop-registers in
    finishes a.program.now (state a.machine a.registers.now a.memory.now) a.budget a.rows.now
    (place l.run l.registers l.memory l.rows) l.invariant (rw c.smaller-limit.ensures at (sym c.goes_on.ensures ∙ c.loop-registers-test.false))
