-- `family::binary_i` meets its contract.
use Rattle.std.proofs.Common.{sym, ◌∙◌}
use Rattle.fast_path.proofs.Families.{binary-I}
use Rattle.fast_path.proofs.family.binary_i.Goals as goal

pub returns : goal.returns
returns c memory pc enabled words turns =
    let a = c.args in
    let low = sym c.flags_i.ensures ∙ c.if-flags_i-ne0.false in
    rw (c.binary.ensures, c.short_signed-y.ensures, c.scalar-x.ensures, c.second.ensures.0)
    (binary-I a.t a.regs.now a.w a.op c.requires.1 low memory pc enabled words turns)
