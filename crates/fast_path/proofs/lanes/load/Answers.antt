-- `lanes::load` meets its contract: a load that is done puts every lane.
use Rattle.execution.specs.Registers.{with_lanes_on}
use Rattle.word_layout.specs.Layout.{bits}
use Rattle.fast_path.proofs.Vectors.{loads-lanes, tries_left}
use Rattle.fast_path.proofs.lanes.load.Goals as goal

pub returns-in-Ok : goal.returns-in-Ok
returns-in-Ok c enabled words turns =
    let a = c.args in
    rw c.put.ensures.0
    (tries_left a.t a.w a.regs.now a.memory.now (with_lanes_on a.regs.now a.t (bits a.w 23 18) c.in-Ok.lanes)
    (loads-lanes a.t a.regs.now a.w c.requires.4 c.requires.3 a.memory.now c.in-Ok.lanes
    (rw (← c.second.ensures.0, ← c.scalar-base.ensures, ← c.short_signed-offset.ensures) (rw c.in-Ok.is at c.load_lanes.ensures)))
    a.pc enabled words turns _ c.put.ensures.1)
