-- `token_at` meets its contract.
use Rattle.std.proofs.Common.{◌+◌, ◌<◌, length, arith, sym, ap, ◌∙◌}
use borrow.Author.Tests.{ltb-true}
use Rattle.std.proofs.lemmas.List.{get_or_read}
use Rattle.token.specs.declared.token.Token.TheVariants.{Mark}
use Rattle.token.proofs.Tokens.{from_end, from-mark, from-word}
use Rattle.token.proofs.token.token_at.Goals as goal

pub returns-in_default : goal.returns-in_default
returns-in_default c =
    let p = c.past_blanks-start in
    from_end c.args.line.now c.args.at p.result p.ensures (omega (arith, c.in_default.ensures.lookup))

pub returns-then-stop-start : goal.returns-then-stop-start
returns-then-stop-start c =
    let p = c.past_blanks-start in
    let q = c.past_run-stop in
    let l = c.args.line.now in
    let within : p.result < length l = ltb-true _ _ (sym c.in-Some.ensures.lookup.0) in
    ap (λ b. Mark b (p.result + 1)) (get_or_read l p.result _ within c.in-Some.ensures.lookup.1 0)
    ∙ from-mark l c.args.at p.result p.ensures q.result within q.ensures c.if-stop-start.true

pub returns : goal.returns
returns c =
    let p = c.past_blanks-start in
    let q = c.past_run-stop in
    from-word c.args.line.now c.args.at p.result p.ensures q.result (ltb-true _ _ (sym c.in-Some.ensures.lookup.0)) q.ensures c.if-stop-start.false
