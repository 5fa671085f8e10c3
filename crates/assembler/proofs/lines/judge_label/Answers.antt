-- `judge_label` meets its contract.
use Rattle.std.proofs.Common.{◌≡◌, ◌*◌, take, drop, sym, ap, ◌∙◌, arith}
use Rattle.token.specs.Token.{leading_word}
use Rattle.token.proofs.Runs.{run_fits}
use Rattle.expression.specs.Label.{address_in}
use Rattle.expression.specs.Value.{label_value}
use Rattle.assembler.specs.Types.{Unknown}
use Rattle.assembler.specs.Source.{is_known}
use Rattle.assembler.specs.Walk.{entries}
use Rattle.assembler.proofs.Tables.{address_is, unknown-is, known_is, not_unknown, name-beyond, name-again, name_new, text-word, so-many}
use Rattle.assembler.proofs.lines.judge_label.Goals as goal

pub returns-then-n-ge256 : goal.returns-then-n-ge256
returns-then-n-ge256 c =
    let x = c.args in
    let s = x.labels.source.now in
    let t = x.labels.table.now in
    sym (name-beyond (entries s (take (2 * x.n) t)) (leading_word (drop x.start x.text.now)) (omega (arith, so-many s t x.n c.requires.0)))

pub slice_bounds-value_of_label-end : goal.slice_bounds-value_of_label-end
slice_bounds-value_of_label-end c = omega (arith, c.past_run-stop.ensures, run_fits c.args.text.now c.args.start c.requires.1)

pub returns-in-Known : goal.returns-in-Known
returns-in-Known c =
    let x = c.args in
    let s = x.labels.source.now in
    let t = take (2 * x.n) x.labels.table.now in
    let w = leading_word (drop x.start x.text.now) in
    let k = c.value_of_label in
    let v = k.ensures.value ∙ ap (λ y. label_value (address_in s t y)) (text-word x.text.now x.start c.past_run-stop.result c.past_run-stop.ensures) in
    sym (name-again (entries s t) w (ap is_known (sym (address_is s t w)) ∙ known_is (address_in s t w) k.result (not_unknown k.result c.in-Known.is) v))

pub returns-in-Unknown : goal.returns-in-Unknown
returns-in-Unknown c =
    let x = c.args in
    let s = x.labels.source.now in
    let t = take (2 * x.n) x.labels.table.now in
    let w = leading_word (drop x.start x.text.now) in
    let v : Unknown ≡ label_value (address_in s t w) = c.in-Unknown.ensures.value ∙ ap (λ y. label_value (address_in s t y)) (text-word x.text.now x.start c.past_run-stop.result c.past_run-stop.ensures) in
    sym (name_new (entries s t) w (ap is_known (sym (address_is s t w)) ∙ unknown-is (address_in s t w) v) (omega (arith, so-many s x.labels.table.now x.n c.requires.0)))
