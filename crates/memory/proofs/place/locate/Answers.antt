-- `place::locate` meets its contract: the tests are those of the definition, in its order.
use mathlib.Core.Path.{sym, ap, ◌∙◌}
use native.Mathlib.Omega.{arith}
use borrow.Author.Rules.{rules}
use Rattle.memory.specs.Place.{place}
use Rattle.memory.proofs.Places.{biased-lt, low-enough, when-misaligned, when-outside, when-good}
use Rattle.memory.proofs.place.locate.Goals as goal

pub overflow_add-inside : goal.overflow_add-inside
overflow_add-inside c =
    let a = c.args in
    omega (arith, c.biased-address.ensures, biased-lt a.base a.offset (search rules) (search rules))

pub returns-then-not-is_multiple : goal.returns-then-not-is_multiple
returns-then-not-is_multiple c = sym (when-misaligned _ _ _ _ (sym c.is_multiple.ensures ∙ c.if-not-is_multiple.true)) ∙ ap (place c.args.alignment c.args.size c.args.length) c.biased-address.ensures

pub returns-then-not-inside : goal.returns-then-not-inside
returns-then-not-inside c =
    sym (when-outside _ _ _ _ (sym c.is_multiple.ensures ∙ c.if-not-is_multiple.false) (c.if-not-inside.true))
    ∙ ap (place c.args.alignment c.args.size c.args.length) c.biased-address.ensures

pub overflow_sub-result : goal.overflow_sub-result
overflow_sub-result c = low-enough _ _ _ (c.if-not-inside.false)

pub returns : goal.returns
returns c =
    sym (when-good _ _ _ _ (sym c.is_multiple.ensures ∙ c.if-not-is_multiple.false) (c.if-not-inside.false))
    ∙ ap (place c.args.alignment c.args.size c.args.length) c.biased-address.ensures
