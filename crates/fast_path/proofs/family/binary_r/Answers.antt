-- `family::binary_r` meets its contract.
use Rattle.std.proofs.Common.{sym, ◌∙◌}
use Rattle.fast_path.proofs.Families.{binary-R}
use Rattle.fast_path.proofs.family.binary_r.Goals as goal

pub returns : goal.returns
returns c memory pc enabled words turns =
    let a = c.args in
    let low = sym c.flags_r.ensures ∙ c.if-flags_r-ne0.false in
    rw (c.binary.ensures, c.scalar-y.ensures, c.scalar-x.ensures, c.second.ensures.0, c.third.ensures.0)
    (binary-R a.t a.regs.now a.w a.op c.requires.1 low memory pc enabled words turns)
