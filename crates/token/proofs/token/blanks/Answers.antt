use Rattle.std.proofs.Common.{◌∙◌, rules, tests}
use Rattle.std.proofs.lemmas.Iterator.{YieldsList-from_slice}
use Rattle.std.proofs.lemmas.Iterator.Consumers.{YieldsList-at, count_from_yields_List}
use Rattle.std.proofs.lemmas.Iterator.Search.{YieldsList-from_take_while}
use Rattle.token.specs.Byte.{is_blank}
use Rattle.token.proofs.Runs.{blanks_counted}
use Rattle.token.proofs.token.blanks.Goals as goal

pub returns : goal.returns
returns c =
    let w = c.take_while.ensures in
    count_from_yields_List c.take_while.result _ c.count.ensures.ran (YieldsList-from_take_while _ is_blank (YieldsList-at w.source (YieldsList-from_slice c.args.text.now cc)) w.closure w.done (λ x q k. search (rules, tests)))
    ∙ blanks_counted c.args.text.now
