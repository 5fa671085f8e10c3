-- `word_term` meets its contract: a number, a label, or no term.
use Rattle.std.proofs.Common.{sym}
use Rattle.expression.specs.Labels.{addresses}
use Rattle.expression.proofs.Words.{a-number, a-label, no-term}
use Rattle.expression.proofs.word.word_term.Goals as goal

pub returns-in-Some-clause-value : goal.returns-in-Some-clause-value
returns-in-Some-clause-value c =
    let a = c.args in
    a-number (addresses a.labels) a.word.now c.in-Some.n c.bound_up.result c.in-Some.ensures c.bound_up.ensures.value

pub returns-in-None-clause-value : goal.returns-in-None-clause-value
returns-in-None-clause-value c =
    let a = c.args in
    a-label (addresses a.labels) a.word.now c.value_of_label.result c.in-None.ensures (sym c.if-is_label.ensures) c.value_of_label.ensures.value

pub returns-in-None-2-clause-value : goal.returns-in-None-2-clause-value
returns-in-None-2-clause-value c =
    let a = c.args in
    no-term (addresses a.labels) a.word.now c.in-None-2.ensures (sym c.if-is_label.ensures)
