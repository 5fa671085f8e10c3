-- `family::compare_i` meets its contract.
use Rattle.std.proofs.Common.{◌≡◌, cond, sym, ◌∙◌, rules}
use Rattle.fast_path.proofs.Families.{compare-I}
use Rattle.fast_path.proofs.family.compare_i.Goals as goal

pub returns : goal.returns
returns c memory pc enabled words turns =
    let a = c.args in
    let low = sym c.flags_i.ensures ∙ c.if-flags_i-ne0.false in
    let number : c.from.result ≡ cond c.compare.result 1 0 = search rules in
    rw (
      number,
      c.compare.ensures,
      c.short_signed-y.ensures,
      c.scalar-x.ensures,
      c.second.ensures.0,
    )
    (compare-I a.t a.regs.now a.w a.op c.requires.1 low memory pc enabled words turns)
