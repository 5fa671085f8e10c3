-- `reading::read_sized` meets its contract.
use Rattle.std.proofs.Common.{◌≡◌, sym, ap, ◌∙◌}
use Rattle.std.proofs.lemmas.Result.{err_from_is_err_and}
use mathlib.Core.Option.{none, some}
use native.Mathlib.Omega.{arith}
use Rattle.answer.specs.Answer.{given}
use Rattle.answer.specs.Refusal.{row_of, refused_or}
use Rattle.machine.specs.State.{state}
use Rattle.machine.specs.Machine.{zeroed}
use Rattle.image_layout.specs.Layout.{heads_in}
use Rattle.image.specs.Calls.{reading, read_by}
use Rattle.image.specs.Image.{machine_in}
use Rattle.image.specs.Opening.{Opening}
use Rattle.image.specs.Refusal.{content_number, records_number}
use Rattle.image.proofs.reading.read_sized.Goals as goal

pub judge_kinds-requires : goal.judge_kinds-requires
judge_kinds-requires c = (omega arith, c.requires.1)

pub returns-in_err-machine : goal.returns-in_err-machine
unfolding records_number content_number heads_in
returns-in_err-machine c =
    let a = c.args in
    let p = err_from_is_err_and c.from_residual.result c.from_residual.ensures.1 in
    let e : some (row_of c.in_err-machine.field-0.0) ≡ records_number a.shape a.image.now = ap (λ (o : Opening). o.number) c.in_err-machine.ensures in
    rw (p.1, p.2) (ap (λ o. read_by o a.shape a.image.now a.registers.now a.memory.now) e)

pub take_registers-requires : goal.take_registers-requires
take_registers-requires c = (c.requires.1, c.requires.0.room)

pub take_memory-requires : goal.take_memory-requires
take_memory-requires c = (c.requires.1, sym c.requires.0.whole)

pub returns : goal.returns
unfolding records_number content_number heads_in
returns c =
    let a = c.args in
    let e : none ≡ records_number a.shape a.image.now = ap (λ (o : Opening). o.number) c.in_ok-machine.ensures in
    let m : c.in_ok-machine.machine ≡ machine_in a.shape a.image.now = ap (λ (o : Opening). o.machine) c.in_ok-machine.ensures ∙ ap (λ o. refused_or o (λ n. zeroed) (machine_in a.shape a.image.now)) (sym e) in
    (λ i. reading (given tt) (state (m i) (c.take_registers.ensures i) (c.take_memory.ensures i)))
    ∙ ap (λ o. read_by o a.shape a.image.now a.registers.now a.memory.now) e
