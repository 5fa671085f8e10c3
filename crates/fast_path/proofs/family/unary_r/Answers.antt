-- `family::unary_r` meets its contract.
use Rattle.fast_path.proofs.Families.{unary-R}
use Rattle.fast_path.proofs.family.unary_r.Goals as goal

pub returns : goal.returns
returns c memory pc enabled words turns =
    let a = c.args in
    rw (c.unary.ensures, c.scalar-x.ensures, c.second.ensures.0)
    (unary-R a.t a.regs.now a.w a.op c.requires.1 c.if-w-ne0.false memory pc enabled words turns)
