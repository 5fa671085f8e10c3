-- `operands_at` meets its contract.
use Rattle.std.proofs.Common.{ap, ◌∙◌, drop}
use Rattle.token.specs.Token.{tokens}
use Rattle.expression.specs.Labels.{addresses}
use Rattle.statement.specs.Field.{field_on}
use Rattle.statement.proofs.Fielded.{all-fields}
use Rattle.statement.proofs.operands.operands_at.Goals as goal

pub returns : goal.returns
returns c =
    let x = c.args in
    let a = addresses x.labels in
    c.next_operand.ensures ∙ ap (λ o. field_on a x.s.third o) (c.next_operand-two.ensures ∙ ap (λ o. field_on a x.s.second o) c.next_operand-one.ensures) ∙ all-fields a x.s (tokens (drop x.at x.line.now))
