-- `same_word` meets its contract: words of two first bytes are not the same.
use Rattle.std.proofs.Common.{sym, ap, ◌∙◌}
use Rattle.expression.specs.Label.{same}
use Rattle.expression.proofs.Named.{first-differs}
use Rattle.expression.proofs.word.same_word.Goals as goal

pub returns-in-Some-Some : goal.returns-in-Some-Some
returns-in-Some-Some c =
    let a = c.in-Some-Some.ensures.lookup.3 in
    let b = c.in-Some-Some.ensures'.item.3 in
    first-differs c.args.source.now c.args.word.now c.args.place a.0 b.0 (λ e. c.if-a-b.true (a.1 0 ∙ e ∙ sym (b.1 0)))

pub returns-in_default : goal.returns-in_default
returns-in_default c = c.same_bytes.ensures ∙ ap (λ x. same x c.args.word.now) c.word_from.ensures
