-- `images::write_in` meets its contract: by the verdicts.
use mathlib.Core.Path.{sym, ap, ◌∙◌}
use lib.ListN.{length}
use Rattle.std.proofs.lemmas.Result.{err_from_is_err_and}
use Rattle.answer.specs.Refusal.{row_of, size_checks, sizes_number}
use Rattle.image_layout.specs.Layout.{fixed_of}
use Rattle.machine.specs.Machine.{zeroed}
use Rattle.capi.proofs.Verdicts.{lengths-refused, record-refused, all-accepted, machine-is}
use Rattle.capi.proofs.Writing.{refused-before, write-handed}
use Rattle.capi.proofs.images.write_in.Goals as goal

pub returns-in_err-sizes_verdict : goal.returns-in_err-sizes_verdict
unfolding sizes_number
returns-in_err-sizes_verdict c =
    let a = c.args in
    let p = err_from_is_err_and c.from_residual.result c.from_residual.ensures.1 in
    let n = row_of c.in_err-sizes_verdict.field-0.0 in
    let k = size_checks (fixed_of a.form) (length a.registers.now) (length a.memory.now) (length a.buffer.now) in
    let h = c.in_err-sizes_verdict.ensures ∙ ap (λ n. sizes_number n (length a.registers.now) (length a.memory.now) (length a.buffer.now)) c.fixed_part.ensures in
    rw (p.1, p.2) (refused-before a.form a.dropping a.registers.now a.memory.now a.bytes.now a.buffer.now n (sym (lengths-refused k a.bytes.now n h)))

pub returns-in_err-machine : goal.returns-in_err-machine
unfolding sizes_number
returns-in_err-machine c =
    let a = c.args in
    let p = err_from_is_err_and c.from_residual-in_err-machine.result c.from_residual-in_err-machine.ensures.1 in
    let n = row_of c.in_err-machine.field-0.0 in
    let k = size_checks (fixed_of a.form) (length a.registers.now) (length a.memory.now) (length a.buffer.now) in
    let h = c.in_ok-sizes_verdict.ensures ∙ ap (λ n. sizes_number n (length a.registers.now) (length a.memory.now) (length a.buffer.now)) c.fixed_part.ensures in
    rw (p.1, p.2) (refused-before a.form a.dropping a.registers.now a.memory.now a.bytes.now a.buffer.now n (sym (record-refused k a.bytes.now h n zeroed c.in_err-machine.ensures)))

pub returns : goal.returns
unfolding sizes_number
returns c =
    let a = c.args in
    let m = c.in_ok-machine.machine in
    let k = size_checks (fixed_of a.form) (length a.registers.now) (length a.memory.now) (length a.buffer.now) in
    let h = c.in_ok-sizes_verdict.ensures ∙ ap (λ n. sizes_number n (length a.registers.now) (length a.memory.now) (length a.buffer.now)) c.fixed_part.ensures in
    write-handed a.form a.dropping a.registers.now a.memory.now a.bytes.now a.buffer.now (sym (all-accepted k a.bytes.now h m c.in_ok-machine.ensures))
    c.write_as.result (machine-is k a.bytes.now h m c.in_ok-machine.ensures) c.write_as.ensures
