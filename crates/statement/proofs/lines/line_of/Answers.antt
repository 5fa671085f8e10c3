-- `line_of` meets its contract.
use Rattle.std.proofs.Common.{◌≡◌, length, sym, ◌∙◌}
use borrow.Author.Tests.{le-ltb}
use Rattle.expression.specs.Labels.{addresses}
use Rattle.statement.specs.Evaluation.{evaluated_line, line_value, LabelInside}
use Rattle.statement.specs.Line.{line_of, uncommented, code_line}
use Rattle.statement.proofs.Saying.{seen-in-line, label-in}
use Rattle.statement.proofs.lines.line_of.Goals as goal

pub returns-clause-line : goal.returns-clause-line
unfolding line_of
returns-clause-line c =
    let l = c.args.line.now in
    let a = addresses c.args.labels in
    let parsed_as : line_value (uncommented l) c.code_line.result ≡ evaluated_line a (code_line (uncommented l)) = rw c.up_to.ensures at c.code_line.ensures.line in
    let at : LabelInside (length (uncommented l)) c.code_line.result = rw c.up_to.ensures at c.code_line.ensures.label in
    rw (le-ltb 120 _ c.if-line-gt-LONGEST_LINE.false) (sym (seen-in-line l c.code_line.result at) ∙ parsed_as)

pub returns-clause-label : goal.returns-clause-label
returns-clause-label c =
    let at : LabelInside (length (uncommented c.args.line.now)) c.code_line.result = rw c.up_to.ensures at c.code_line.ensures.label in
    label-in c.args.line.now c.code_line.result at
