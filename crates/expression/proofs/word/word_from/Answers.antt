use Rattle.std.proofs.Common.{◌∙◌, arith, drop_of_length-le}
use Rattle.token.specs.Token.{leading_word}
use Rattle.token.proofs.Runs.{run_fits, run-part, part-is}
use Rattle.expression.proofs.word.word_from.Goals as goal

pub returns-then-text-place : goal.returns-then-text-place
unfolding leading_word
returns-then-text-place c = rw (drop_of_length-le c.args.text.now {i = c.args.place} (omega arith))

pub slice_bounds-result-end-2 : goal.slice_bounds-result-end-2
slice_bounds-result-end-2 c = omega (arith, c.past_run.ensures, run_fits c.args.text.now c.args.place (omega arith))

pub returns : goal.returns
returns c =
    let p = c.past_run in
    part-is c.args.place p.result c.args.text.now (omega (arith, p.ensures)) ∙ run-part c.args.text.now c.args.place p.result p.ensures
