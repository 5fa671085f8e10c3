-- `rows::compare` meets its contract: it answers by its row.
use Rattle.std.proofs.Common.{sym, ap, ◌∙◌, rules}
use Rattle.ordering.specs.declared.rows.CompareRow.{CompareRow}
use Rattle.ordering.specs.Order.{pick, answer}
use Rattle.ordering.proofs.Ordered.{by_row}
use Rattle.ordering.proofs.rows.compare.Goals as goal

pub returns : goal.returns
returns c =
    let a = c.args in
    let r = c.compare_row-row.result in
    c.pick.ensures
    ∙ ap (λ o. pick o r.below r.equal r.above r.unordered) c.order.ensures
    ∙ ap (λ (p : CompareRow). answer p a.x a.y) c.compare_row-row.ensures
    ∙ sym (by_row a.op a.x a.y (search rules) (search rules))
