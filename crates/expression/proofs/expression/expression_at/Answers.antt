use Rattle.expression.specs.Labels.{addresses}
use Rattle.expression.proofs.Steps.{expression-read}
use Rattle.expression.proofs.expression.expression_at.Goals as goal

pub returns : goal.returns
returns c =
    let a = c.args in
    let l = c.lead_at-sign in
    expression-read a.line.now (addresses a.labels) a.at l.result.1 l.result.0 c.sum.result
    l.ensures.lead c.sum.ensures.read
