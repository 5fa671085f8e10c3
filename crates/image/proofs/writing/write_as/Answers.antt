-- `writing::write_as` meets its contract.
use Rattle.std.proofs.Common.{length, sym, ap, ◌∙◌}
use Rattle.std.proofs.lemmas.Result.{err_from_is_err_and}
use native.Mathlib.Omega.{arith}
use Rattle.answer.specs.Answer.{given}
use Rattle.answer.specs.Refusal.{sizes_number}
use Rattle.machine.specs.State.{State, state}
use Rattle.image_layout.specs.Layout.{kind_at, laid_out}
use Rattle.image.specs.Calls.{writing}
use Rattle.image.specs.Image.{image}
use Rattle.image.proofs.Refusals.{sized, long, lengths, memory-blocks, write-refused, write-taken, refused-sizes, refused-record}
use Rattle.image.proofs.Bodies.{suits}
use Rattle.image.proofs.writing.write_as.Goals as goal

-- the number of the lengths by the form's fixed part, and what they then have

pub returns-in_err-sizes_verdict : goal.returns-in_err-sizes_verdict
returns-in_err-sizes_verdict c =
    let a = c.args in
    let s : State = state a.machine a.registers.now a.memory.now in
    let p = err_from_is_err_and c.from_residual.result c.from_residual.ensures.1 in
    let h = c.in_err-sizes_verdict.ensures ∙ ap (λ n. sizes_number n (length a.registers.now) (length a.memory.now) (length a.buffer.now)) c.fixed_part.ensures in
    rw (p.1, p.2) (write-refused a.form a.dropping s a.buffer.now _ (refused-sizes a.form a.dropping s a.buffer.now _ (sym h)))

pub returns-in_err-judge_record : goal.returns-in_err-judge_record
returns-in_err-judge_record c =
    let a = c.args in
    let s : State = state a.machine a.registers.now a.memory.now in
    let p = err_from_is_err_and c.from_residual-in_err-judge_record.result c.from_residual-in_err-judge_record.ensures.1 in
    let h = c.in_ok-sizes_verdict.ensures ∙ ap (λ n. sizes_number n (length a.registers.now) (length a.memory.now) (length a.buffer.now)) c.fixed_part.ensures in
    rw (p.1, p.2) (write-refused a.form a.dropping s a.buffer.now _ (refused-record a.form a.dropping s a.buffer.now _ (sym h) (sym c.in_err-judge_record.ensures)))

pub overflow_cast-blocks : goal.overflow_cast-blocks
overflow_cast-blocks c =
    let a = c.args in
    let h = c.in_ok-sizes_verdict.ensures ∙ ap (λ n. sizes_number n (length a.registers.now) (length a.memory.now) (length a.buffer.now)) c.fixed_part.ensures in
    let k = sized a.form (length a.registers.now) (length a.memory.now) (length a.buffer.now) (sym h) in
    omega (arith, memory-blocks (length a.memory.now) k.memory)

pub put_kinds-requires : goal.put_kinds-requires
put_kinds-requires c =
    let a = c.args in
    let h = c.in_ok-sizes_verdict.ensures ∙ ap (λ n. sizes_number n (length a.registers.now) (length a.memory.now) (length a.buffer.now)) c.fixed_part.ensures in
    let k = sized a.form (length a.registers.now) (length a.memory.now) (length a.buffer.now) (sym h) in
    (λ q l. suits _ a.registers.now a.memory.now (lengths a.form a.registers.now a.memory.now (length a.buffer.now) k) (kind_at q), long a.form (length a.registers.now) (length a.memory.now) (length a.buffer.now) k)

pub returns : goal.returns
unfolding image laid_out
returns c =
    let a = c.args in
    let s : State = state a.machine a.registers.now a.memory.now in
    let h = c.in_ok-sizes_verdict.ensures ∙ ap (λ n. sizes_number n (length a.registers.now) (length a.memory.now) (length a.buffer.now)) c.fixed_part.ensures in
    ap (writing (given tt)) c.put_kinds.ensures ∙ write-taken a.form a.dropping s a.buffer.now (sym h) (sym c.in_ok-judge_record.ensures)
