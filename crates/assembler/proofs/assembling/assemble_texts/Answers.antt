-- `assemble_texts` meets its contract.
use Rattle.std.proofs.Common.{length}
use Rattle.std.proofs.lemmas.Result.{err_from_is_err_and}
use Rattle.answer.specs.Refusal.{row_of}
use Rattle.assembler.proofs.Refusals.{texts-refused, texts-taken}
use Rattle.assembler.proofs.assembling.assemble_texts.Goals as goal

pub returns-in_err-first_refused : goal.returns-in_err-first_refused
returns-in_err-first_refused c =
    let x = c.args in
    let r = c.in_err-first_refused.field-0.0 in
    let p = err_from_is_err_and c.from_residual.result c.from_residual.ensures.1 in
    rw (p.1, p.2) (texts-refused x.source.now (length x.words.now) x.words.now (row_of r.refusal) r.line c.in_err-first_refused.ensures)

pub returns : goal.returns
returns c =
    let x = c.args in
    texts-taken x.source.now (length x.words.now) x.words.now _ c.in_ok-first_refused.ensures c.assemble_labelled.ensures
