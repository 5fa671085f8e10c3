-- `fill` meets its contract: page by page it follows the plain run.
use Rattle.std.proofs.lemmas.Result.{err_from_is_err_and}
use Prim.Native.Nat.{◌<◌, ◌^◌}
use mathlib.Core.Path.{refl, sym, ap, ◌∙◌}
use native.Mathlib.Omega.{arith}
use Rattle.machine.specs.State.{State, state}
use Rattle.capi_trace.specs.Calls.{filling}
use Rattle.capi_trace.proofs.Pages.{from-here, begun, refuses, taken-next, more-fits, turned, nearer, ended}
use Rattle.capi_trace.proofs.filling.fill.Goals as goal

pub loop-left-init : goal.loop-left-init
loop-left-init c =
    let a = c.args in
    let s = state a.machine a.registers.now a.memory.now in
    let same = from-here a.program.now s _ _ _ c.in_ok-run.ensures in
    (rw same (begun a.program.now s a.limit a.numbers.now _ _ _ c.in_ok-run.ensures), refl, refl, refl)

pub returns-in_err-run : goal.returns-in_err-run
returns-in_err-run c =
    let a = c.args in
    let p = err_from_is_err_and c.from_residual.result c.from_residual.ensures.1 in
    rw (p.1, p.2)
    (refuses a.program.now (state a.machine a.registers.now a.memory.now) a.limit a.numbers.now _ a.machine _ _ c.in_err-run.ensures)

pub overflow_sub-left : goal.overflow_sub-left
overflow_sub-left c = omega (arith, c.loop-left.invariant.0.within)

pub fill_page-run-requires : goal.fill_page-run-requires
fill_page-run-requires c = (omega (arith, c.loop-left.invariant.0.within, c.ranges.limit), taken-next c.loop-left.invariant.0)

pub overflow_add-made : goal.overflow_add-made
overflow_add-made c =
    let l = c.loop-left in
    let small : c.args.limit < 2 ^ 32 = omega (arith, c.ranges.limit) in
    let go = sym c.goes_on.ensures ∙ c.loop-left-test.true in
    omega (arith, c.smaller-made.ensures, more-fits small c.requires l.invariant.0 go c.fill_page-run.ensures)

pub loop-left-smaller : goal.loop-left-smaller
loop-left-smaller c =
    let l = c.loop-left in
    let small : c.args.limit < 2 ^ 32 = omega (arith, c.ranges.limit) in
    let go = sym c.goes_on.ensures ∙ c.loop-left-test.true in
    omega (arith, c.smaller-made.ensures, nearer small c.requires l.invariant.0 go c.fill_page-run.ensures)

pub loop-left-preserved : goal.loop-left-preserved
loop-left-preserved c =
    let l = c.loop-left in
    let small : c.args.limit < 2 ^ 32 = omega (arith, c.ranges.limit) in
    let go = sym c.goes_on.ensures ∙ c.loop-left-test.true in (
      rw c.smaller-made.ensures (turned small c.requires l.invariant.0 go c.fill_page-run.ensures),
      c.fill_page-run.auto.registers ∙ l.invariant.1,
      c.fill_page-run.auto.memory ∙ l.invariant.2,
      c.fill_page-run.auto.numbers ∙ l.invariant.3,
    )

pub returns : goal.returns
returns c =
    let l = c.loop-left in
    let a = c.args in
    let s = state a.machine a.registers.now a.memory.now in
    let same = from-here a.program.now s _ _ _ c.in_ok-run.ensures in
    ended a.program.now _ a.limit a.numbers.now l.made l.run l.registers l.memory l.numbers l.invariant.0
    (sym c.goes_on.ensures ∙ c.loop-left-test.false)
    ∙ ap (λ (y : State). filling a.program.now a.limit y a.numbers.now) same

pub shape_of-registers : goal.shape_of-registers
shape_of-registers c = c.loop-left.invariant.1 ∙ c.begin.auto.registers

pub shape_of-memory : goal.shape_of-memory
shape_of-memory c = c.loop-left.invariant.2 ∙ c.begin.auto.memory

pub shape_of-numbers : goal.shape_of-numbers
shape_of-numbers c = c.loop-left.invariant.3
