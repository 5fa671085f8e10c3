-- `lanes::put` meets its contract: where every lane is on, every lane is put.
use Rattle.std.proofs.Common.{ℕ, ◌+◌, List, ap, ◌∙◌}
use Rattle.execution.specs.Registers.{with_vector, with_program_counter}
use Rattle.word_layout.specs.Layout.{bits}
use Rattle.fast_path.proofs.Vectors.{puts-all}
use Rattle.fast_path.proofs.lanes.put.Goals as goal

pub returns : goal.returns
returns c =
    let a = c.args in (
      c.go_on.ensures.0,
      c.go_on.ensures.1
          ∙ ap (λ (l : List ℕ). with_program_counter l a.t (a.pc + 4))
          (c.set_vector.ensures ∙ ap (λ (i : ℕ). with_vector a.regs.now a.t i a.v) c.first.ensures.0 ∙ puts-all a.regs.now a.t (bits a.w 23 18) a.v c.requires.2),
    )
