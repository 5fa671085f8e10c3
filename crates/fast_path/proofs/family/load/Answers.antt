-- `family::load` meets its contract: a load that is done writes what it loads.
use Rattle.std.proofs.Common.{sym, ap, ◌∙◌}
use Rattle.fast_path.proofs.Families.{loads}
use Rattle.memory.specs.Attempt.{of_result}
use Rattle.fast_path.proofs.family.load.Goals as goal

pub returns-in-Ok : goal.returns-in-Ok
returns-in-Ok c pc enabled words turns =
    let a = c.args in
    loads a.t a.regs.now a.w a.op c.requires.1 (sym c.flags_i.ensures ∙ c.if-flags_i-ne0.false) a.memory.now _
    (rw (← c.second.ensures.0, ← c.scalar-base.ensures, ← c.short_signed-offset.ensures)
    (sym c.load.ensures ∙ ap of_result c.in-Ok.is))
    pc enabled words turns
