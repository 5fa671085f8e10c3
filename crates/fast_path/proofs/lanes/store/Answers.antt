-- `lanes::store` meets its contract: a store that traps changes nothing.
use Rattle.std.proofs.Common.{refl}
use Rattle.fast_path.proofs.Vectors.{stores-lanes, store-lanes-traps}
use Rattle.fast_path.proofs.lanes.store.Goals as goal

pub returns-in-Ok : goal.returns-in-Ok
returns-in-Ok c enabled words turns =
    let a = c.args in
    rw (c.go_on.ensures.0, c.go_on.ensures.1)
    (stores-lanes a.t a.regs.now a.w c.requires.4 c.requires.3 c.requires.2 a.memory.now _
    (rw (← c.second.ensures.0, ← c.first.ensures.0, ← c.vector-v.ensures, ← c.short_signed-offset.ensures, ← c.scalar-base.ensures)
    (rw c.in-Ok.is at c.store_lanes.ensures))
    a.pc enabled words turns)

pub returns-in-Err : goal.returns-in-Err
returns-in-Err c enabled words turns =
    (refl, store-lanes-traps _ _ _ _ _ _ _ (rw c.in-Err.is at c.store_lanes.ensures))
