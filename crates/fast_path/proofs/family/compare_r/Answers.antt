-- `family::compare_r` meets its contract.
use Rattle.std.proofs.Common.{◌≡◌, cond, sym, ◌∙◌, rules}
use Rattle.fast_path.proofs.Families.{compare-R}
use Rattle.fast_path.proofs.family.compare_r.Goals as goal

pub returns : goal.returns
returns c memory pc enabled words turns =
    let a = c.args in
    let low = sym c.flags_r.ensures ∙ c.if-flags_r-ne0.false in
    let number : c.from.result ≡ cond c.compare.result 1 0 = search rules in
    rw (
      number,
      c.compare.ensures,
      c.scalar-y.ensures,
      c.scalar-x.ensures,
      c.second.ensures.0,
      c.third.ensures.0,
    )
    (compare-R a.t a.regs.now a.w a.op c.requires.1 low memory pc enabled words turns)
