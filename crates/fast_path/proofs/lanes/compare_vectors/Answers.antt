-- `lanes::compare_vectors` meets its contract: by the compare whose opcode it is.
use Rattle.std.proofs.Common.{ℕ, ◌+◌, List, ap, ◌∙◌, ap₂}
use lib.Bits.{bit_and}
use Rattle.compares.specs.Lanes.{compare_lanes}
use Rattle.execution.specs.Registers.{vector, lane_mask, with_scalar, with_program_counter}
use Rattle.word_layout.specs.Layout.{bits}
use Rattle.fast_path.proofs.Compares.{masks}
use Rattle.fast_path.proofs.Vectors.{tries_left}
use Rattle.fast_path.proofs.lanes.compare_vectors.Goals as goal

pub returns : goal.returns
returns c memory enabled words turns =
    let a = c.args in
    let op = c.in-Some.op in
    let x = vector a.regs.now a.t (bits a.w 17 12) in
    let y = vector a.regs.now a.t (bits a.w 11 6) in
    let yes = rw (c.second.ensures.0, c.third.ensures.0) at c.answers-yes.ensures in
    let r = ap₂ bit_and yes c.scalar-mask.ensures ∙ masks op (lane_mask a.regs.now a.t) x y in
    rw c.go_on.ensures.0
    (tries_left a.t a.w a.regs.now memory
    (with_scalar a.regs.now a.t (bits a.w 23 18) (compare_lanes op (lane_mask a.regs.now a.t) x y))
    (c.requires.2 op c.in-Some.ensures.0 memory) a.pc enabled words turns _
    (c.go_on.ensures.1
    ∙ ap (λ (l : List ℕ). with_program_counter l a.t (a.pc + 4))
    (c.set_scalar.ensures ∙ ap₂ (with_scalar a.regs.now a.t) c.first.ensures.0 r)))
