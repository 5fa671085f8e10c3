-- `convert::f32toi32` meets its contract: below one, out of range, and between, where the digits are shifted.
use mathlib.Core.Path.{sym, ◌∙◌}
use Rattle.float.proofs.Truncating.{small, large, between, upward, negated, downward}
use borrow.Author.Rules.{rules}
use Rattle.float.proofs.convert.f32toi32.Goals as goal

pub returns-then-m-lt1065353216 : goal.returns-then-m-lt1065353216
returns-then-m-lt1065353216 c = sym (small c.args.b c.if-m-lt1065353216.true)

pub returns-then-m-ge1325400064 : goal.returns-then-m-ge1325400064
returns-then-m-ge1325400064 c = sym (large c.args.b c.if-m-ge1325400064.true)

pub returns-then-b-lt2147483648 : goal.returns-then-b-lt2147483648
returns-then-b-lt2147483648 c = sym (upward c.args.b c.if-m-lt1065353216.false c.if-m-ge1325400064.false c.if-b-lt2147483648.true)

pub returns : goal.returns
returns c =
    let g = between c.args.b c.if-m-lt1065353216.false c.if-m-ge1325400064.false in
    negated c.args.b _ _ g.some g.lt (search rules) c.wrapping_neg.ensures
    ∙ downward c.args.b c.if-m-lt1065353216.false c.if-m-ge1325400064.false c.if-b-lt2147483648.false
