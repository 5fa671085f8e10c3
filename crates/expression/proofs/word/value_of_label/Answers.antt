use Rattle.std.proofs.Common.{sym, ap, ◌∙◌, arith}
use Rattle.token.proofs.Numbers.{behind_two}
use Rattle.expression.specs.Label.{address_in}
use Rattle.expression.specs.Value.{label_value}
use Rattle.expression.proofs.Named.{label-on, label-found, labels-end}
use Rattle.expression.proofs.word.value_of_label.Goals as goal

pub returns-then-same_word-clause-value : goal.returns-then-same_word-clause-value
returns-then-same_word-clause-value c =
    c.bound_up.ensures.value
    ∙ ap label_value (label-found c.args.labels.source.now c.loop-rest.rest.now c.args.word.now (omega arith) (sym c.if-same_word.ensures) ∙ c.loop-rest.invariant)

pub loop-rest-preserved : goal.loop-rest-preserved
loop-rest-preserved c =
    let l = c.loop-rest.rest.now in
    ap (λ x. address_in c.args.labels.source.now x c.args.word.now) (behind_two l)
    ∙ label-on c.args.labels.source.now l c.args.word.now (omega arith) (sym c.if-same_word.ensures)
    ∙ c.loop-rest.invariant

pub returns-clause-value : goal.returns-clause-value
returns-clause-value c =
    ap label_value (labels-end c.args.labels.source.now c.loop-rest.rest.now c.args.word.now (omega arith) ∙ c.loop-rest.invariant)
