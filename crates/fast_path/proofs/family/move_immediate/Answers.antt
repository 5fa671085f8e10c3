-- `family::move_immediate` meets its contract.
use Rattle.fast_path.proofs.Families.{moves}
use Rattle.fast_path.proofs.family.move_immediate.Goals as goal

pub returns : goal.returns
returns c memory pc enabled words turns =
    let a = c.args in
    rw (c.replace.ensures, c.movei_number.ensures, c.scalar-old.ensures, c.first.ensures.0)
    (moves a.t a.regs.now a.w a.op c.requires.1 c.if-w-ne0.false memory pc enabled words turns)
