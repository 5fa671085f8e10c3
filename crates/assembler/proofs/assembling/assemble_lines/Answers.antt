-- `assemble_lines` meets its contract.
use Rattle.std.proofs.Common.{length, sym, ◌∙◌}
use Rattle.std.proofs.lemmas.Result.{err_from_is_err_and}
use Rattle.answer.specs.Refusal.{row_of}
use Rattle.expression.specs.Labels.{addresses}
use Rattle.assembler.specs.Source.{lines_of}
use Rattle.assembler.proofs.Refusals.{labels-refused, words-refused, lines-taken, pass-labels, pass-words}
use Rattle.assembler.proofs.Counted.{all_words}
use Rattle.assembler.proofs.assembling.assemble_lines.Goals as goal

pub finish-requires : goal.finish-requires
finish-requires c =
    let l = c.args.labels.source.now in
    let a = addresses c.args.labels in
    (c.requires.0, c.requires.2 ∙ sym (all_words a (lines_of l) (sym (c.in_ok-first_refused-2.ensures ∙ pass-words l a))))

pub returns-in_err-first_refused : goal.returns-in_err-first_refused
returns-in_err-first_refused c =
    let x = c.args in
    let l = x.labels.source.now in
    let a = addresses x.labels in
    let r = c.in_err-first_refused.field-0.0 in
    let p = err_from_is_err_and c.from_residual.result c.from_residual.ensures.1 in
    rw (p.1, p.2)
    (labels-refused a (lines_of l) (length x.words.now) x.words.now (row_of r.refusal) r.line (c.in_err-first_refused.ensures ∙ pass-labels l a))

pub returns-in_err-first_refused-2 : goal.returns-in_err-first_refused-2
returns-in_err-first_refused-2 c =
    let x = c.args in
    let l = x.labels.source.now in
    let a = addresses x.labels in
    let r = c.in_err-first_refused-2.field-0.0 in
    let p = err_from_is_err_and c.from_residual-in_err-first_refused-2.result c.from_residual-in_err-first_refused-2.ensures.1 in
    rw (p.1, p.2)
    (words-refused a (lines_of l) (length x.words.now) x.words.now (row_of r.refusal) r.line (c.in_ok-first_refused.ensures ∙ pass-labels l a) (c.in_err-first_refused-2.ensures ∙ pass-words l a))

pub returns : goal.returns
returns c =
    let x = c.args in
    let l = x.labels.source.now in
    let a = addresses x.labels in
    lines-taken a (lines_of l) (length x.words.now) x.words.now _ (c.in_ok-first_refused.ensures ∙ pass-labels l a) (c.in_ok-first_refused-2.ensures ∙ pass-words l a) c.finish.ensures
