-- By the verdicts on the lengths and on the record's bytes.
use Rattle.std.proofs.lemmas.Result.{err_from_is_err_and}
use Prim.Native.Nat.{◌/◌}
use mathlib.Core.Path.{sym, ◌∙◌}
use native.Mathlib.Omega.{arith}
use lib.ListN.{length}
use Rattle.answer.specs.Refusal.{length_checks, lengths_number}
use Rattle.capi.proofs.Verdicts.{lengths-refused, record-refused, all-accepted, opening-none, machine-is}
use Rattle.capi.specs.Refusal.{run_number}
use Rattle.image.specs.Image.{machine_in}
use Rattle.image.specs.Opening.{no_blocks}
use Rattle.machine.specs.State.{state}
use Rattle.trace.proofs.Claims.{least-room}
use Rattle.trace.specs.Traced.{least}
use Rattle.capi_trace.specs.Calls.{run_traced_call}
use Rattle.capi_trace.proofs.Returned.{held_number, trace-called, filling-same}
use Rattle.capi_trace.proofs.calls.run_from.Goals as goal

pub returns-in_err-lengths_verdict : goal.returns-in_err-lengths_verdict
unfolding run_traced_call run_number lengths_number
returns-in_err-lengths_verdict c =
    let a = c.args in
    let k = length_checks (length a.program.now) (length a.registers.now) (length a.memory.now) in
    let p = err_from_is_err_and c.from_residual.result c.from_residual.ensures.1 in
    rw (p.1, p.2, ← lengths-refused k a.bytes.now _ c.in_err-lengths_verdict.ensures)

pub returns-in_err-machine : goal.returns-in_err-machine
unfolding run_traced_call run_number lengths_number
returns-in_err-machine c =
    let a = c.args in
    let k = length_checks (length a.program.now) (length a.registers.now) (length a.memory.now) in
    let p = err_from_is_err_and c.from_residual-in_err-machine.result c.from_residual-in_err-machine.ensures.1 in
    rw (p.1, p.2, ← record-refused k a.bytes.now c.in_ok-lengths_verdict.ensures _ _ c.in_err-machine.ensures)

-- the list has room for the smaller of the two
pub fill-requires : goal.fill-requires
fill-requires c =
    let a = c.args in
    omega (arith, c.smaller-limit.ensures, least-room a.budget (length a.rows.now / 7))

pub returns : goal.returns
unfolding run_traced_call run_number lengths_number
returns c =
    let a = c.args in
    let k = length_checks (length a.program.now) (length a.registers.now) (length a.memory.now) in
    let taken = c.in_ok-lengths_verdict.ensures in
    let opening = c.in_ok-machine.ensures in
    let here = state (machine_in no_blocks a.bytes.now) a.registers.now a.memory.now in
    let accepted = held_number a.program.now a.registers.now a.memory.now a.bytes.now (opening-none k a.bytes.now taken _ opening) ∙ sym taken in
    rw (← all-accepted k a.bytes.now taken _ opening)
    (trace-called a.program.now (least a.budget (length a.rows.now / 7)) here a.rows.now c.fill.result _ _ _ a.bytes.now _ accepted
    (c.fill.ensures ∙ filling-same a.program.now a.registers.now a.memory.now a.rows.now c.smaller-limit.ensures (machine-is k a.bytes.now taken _ opening)))
