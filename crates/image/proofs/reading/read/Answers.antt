-- `reading::read` meets its contract.
use Rattle.std.proofs.Common.{◌≡◌, length, sym, ap, ◌∙◌}
use Rattle.std.proofs.lemmas.Result.{err_from_is_err_and}
use mathlib.Core.Option.{none, some}
use native.Mathlib.Nat.{le_of_eq}
use native.Mathlib.Omega.{arith}
use Rattle.answer.specs.Refusal.{row_of, refused_or, sizes_number}
use Rattle.image_layout.specs.Layout.{fixed_of, form_of}
use Rattle.image.specs.Calls.{read_by}
use Rattle.image.specs.Image.{shape_of}
use Rattle.image.specs.Refusal.{records_number}
use Rattle.image.proofs.Refusals.{sized, long, lengths, memory-blocks, read_number_lem, read-by}
use Rattle.image.proofs.reading.read.Goals as goal

pub returns-in_err-sizes_verdict : goal.returns-in_err-sizes_verdict
returns-in_err-sizes_verdict c =
    let a = c.args in
    let p = err_from_is_err_and c.from_residual.result c.from_residual.ensures.1 in
    let n = row_of c.in_err-sizes_verdict.field-0.0 in
    let h = c.in_err-sizes_verdict.ensures ∙ ap (λ n. sizes_number n (length a.registers.now) (length a.memory.now) (length a.image.now)) c.fixed_part.ensures in
    let f = form_of (length a.image.now) in
    let s : sizes_number (fixed_of f) (length a.registers.now) (length a.memory.now) (length a.image.now) ≡ some n =
    ap (λ g. sizes_number (fixed_of g) (length a.registers.now) (length a.memory.now) (length a.image.now)) (sym c.form_of-form.ensures) ∙ sym h in
    let e = read_number_lem f a.image.now (length a.registers.now) (length a.memory.now) ∙ ap (λ o. refused_or o some (records_number (shape_of f a.memory.now) a.image.now)) s in
    rw (p.1, p.2) (read-by a.image.now a.registers.now a.memory.now (some n) e)

pub overflow_cast-blocks : goal.overflow_cast-blocks
overflow_cast-blocks c =
    let a = c.args in
    let h = c.in_ok-sizes_verdict.ensures ∙ ap (λ n. sizes_number n (length a.registers.now) (length a.memory.now) (length a.image.now)) c.fixed_part.ensures in
    let k = sized c.form_of-form.result (length a.registers.now) (length a.memory.now) (length a.image.now) (sym h) in
    omega (arith, memory-blocks (length a.memory.now) k.memory)

pub read_sized-requires : goal.read_sized-requires
read_sized-requires c =
    let a = c.args in
    let f = c.form_of-form.result in
    let h = c.in_ok-sizes_verdict.ensures ∙ ap (λ n. sizes_number n (length a.registers.now) (length a.memory.now) (length a.image.now)) c.fixed_part.ensures in
    let k = sized f (length a.registers.now) (length a.memory.now) (length a.image.now) (sym h) in
    (lengths f a.registers.now a.memory.now (length a.image.now) k, le_of_eq (long f (length a.registers.now) (length a.memory.now) (length a.image.now) k))

pub returns : goal.returns
returns c =
    let a = c.args in
    let h = c.in_ok-sizes_verdict.ensures ∙ ap (λ n. sizes_number n (length a.registers.now) (length a.memory.now) (length a.image.now)) c.fixed_part.ensures in
    let f = form_of (length a.image.now) in
    let s : sizes_number (fixed_of f) (length a.registers.now) (length a.memory.now) (length a.image.now) ≡ none =
    ap (λ g. sizes_number (fixed_of g) (length a.registers.now) (length a.memory.now) (length a.image.now)) (sym c.form_of-form.ensures) ∙ sym h in
    let n = records_number (shape_of f a.memory.now) a.image.now in
    c.read_sized.ensures
    ∙ (ap (λ g. read_by (records_number (shape_of g a.memory.now) a.image.now) (shape_of g a.memory.now) a.image.now a.registers.now a.memory.now) c.form_of-form.ensures
    ∙ read-by a.image.now a.registers.now a.memory.now n (read_number_lem f a.image.now (length a.registers.now) (length a.memory.now) ∙ ap (λ o. refused_or o some n) s))
