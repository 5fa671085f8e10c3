-- `up_to` meets its contract.
use Rattle.std.proofs.Common.{ap, take, ◌∙◌, eqb, rules, tests}
use mathlib.Core.Bool.{not}
use Rattle.std.proofs.lemmas.Iterator.{YieldsList-from_slice}
use Rattle.std.proofs.lemmas.Iterator.Consumers.{YieldsList-at, count_from_yields_List}
use Rattle.std.proofs.lemmas.Iterator.Search.{YieldsList-from_take_while}
use Rattle.statement.proofs.Ends.{upto_counted, take-upto}
use Rattle.statement.proofs.lines.up_to.Goals as goal

pub returns : goal.returns
returns c =
    let x = c.args in
    let w = c.take_while.ensures in
    let road = YieldsList-from_take_while _ (λ d. not (eqb d x.c)) (YieldsList-at w.source (YieldsList-from_slice x.text.now cc)) w.closure w.done (λ y q k. search (rules, tests)) in
    ap (λ n. take n x.text.now) (count_from_yields_List c.take_while.result _ c.count-end.ensures.ran road ∙ upto_counted x.c x.text.now)
    ∙ take-upto x.c x.text.now
