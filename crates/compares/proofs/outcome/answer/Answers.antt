-- `outcome::answer` meets its contract: a compare of whole numbers answers by its row.
use mathlib.Core.Path.{ap, ◌∙◌}
use Prim.Native.Nat.{ℕ}
use borrow.Author.Rules.{rules}
use Rattle.ordering.specs.Order.{order_biased, pick}
use Rattle.compares.specs.declared.outcome.Outcomes.{Outcomes}
use Rattle.compares.proofs.Picked.{answered}
use Rattle.compares.proofs.outcome.answer.Goals as goal

pub returns : goal.returns
returns c =
    let a = c.args in
    c.select.ensures
    ∙ ap (λ o. pick {A = ℕ} o a.o.below a.o.equal a.o.above a.o.above) c.order_biased.ensures
    ∙ ap (λ (p : Outcomes). pick {A = ℕ} (order_biased p.bias a.x a.y) p.below p.equal p.above p.above) c.requires.0
    ∙ answered a.op a.x a.y c.requires.1 (search rules) (search rules)
