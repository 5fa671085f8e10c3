-- `number_of` meets its contract.
use Rattle.std.proofs.Common.{sym, ap, ◌∙◌}
use Rattle.token.specs.Number.{number, numeral}
use Rattle.token.specs.Word.{capped}
use Rattle.token.proofs.Numbers.{starts_hex, behind_two}
use Rattle.token.proofs.word.number_of.Goals as goal

pub returns-then-starts_with : goal.returns-then-starts_with
unfolding number
returns-then-starts_with c =
    let w = c.args.word.now in
    rw (sym (starts_hex w) ∙ sym c.if-starts_with.ensures.value)
    (c.numeral.ensures ∙ ap (λ x. capped (numeral 16 x)) (behind_two w))

pub returns : goal.returns
unfolding number
returns c = rw (sym (starts_hex c.args.word.now) ∙ sym c.if-starts_with.ensures.value) c.decimal.ensures
