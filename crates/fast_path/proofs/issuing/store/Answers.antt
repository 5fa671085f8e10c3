-- `issuing::store` meets its contract: a store that traps changes nothing.
use Rattle.std.proofs.Common.{sym, refl, ◌∙◌}
use Rattle.fast_path.proofs.Families.{stores, store-traps}
use Rattle.fast_path.proofs.issuing.store.Goals as goal

pub returns-in-Ok : goal.returns-in-Ok
returns-in-Ok c enabled words turns =
    let a = c.args in
    rw (c.go_on.ensures.0, c.go_on.ensures.1)
    (stores a.t a.regs.now a.w a.op c.requires.2 (sym c.flags_i.ensures ∙ c.if-flags_i-ne0.false) a.memory.now _
    (rw (← c.second.ensures.0, ← c.first.ensures.0, ← c.short_signed-offset.ensures, ← c.scalar-x.ensures, ← c.scalar-base.ensures)
    (rw c.in-Ok.is at c.store.ensures))
    a.pc enabled words turns)

pub returns-in-Err : goal.returns-in-Err
returns-in-Err c enabled words turns =
    (refl, store-traps _ _ _ _ _ _ _ (rw c.in-Err.is at c.store.ensures))
