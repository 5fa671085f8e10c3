-- `lanes::combine` meets its contract: the lanes are those of the operation.
use Rattle.std.proofs.Common.{ℕ, ◌+◌, List, ap, ◌∙◌}
use Rattle.execution.specs.Registers.{with_lanes_on, with_program_counter}
use Rattle.vector.specs.Lanes.{binary_lanes}
use Rattle.vector.proofs.Halves.{integers}
use Rattle.word_layout.specs.Layout.{bits}
use Rattle.fast_path.proofs.Vectors.{tries_left}
use Rattle.fast_path.proofs.lanes.combine.Goals as goal

pub returns : goal.returns
returns c memory enabled words turns =
    let a = c.args in
    let v = c.each_integer.ensures ∙ integers a.op a.x a.y c.requires.3 in
    rw c.put.ensures.0
    (tries_left a.t a.w a.regs.now memory (with_lanes_on a.regs.now a.t (bits a.w 23 18) (binary_lanes a.op a.x a.y)) (c.requires.4 memory) a.pc enabled words turns _
    (c.put.ensures.1
    ∙ ap (λ (l : List ℕ). with_program_counter (with_lanes_on a.regs.now a.t (bits a.w 23 18) l) a.t (a.pc + 4)) v))
