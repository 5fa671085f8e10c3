-- `issuing::jump` meets its contract: a target with a word is jumped to.
use Rattle.std.proofs.Common.{rules}
use Rattle.execution.proofs.Targets.{wrapped}
use Rattle.execution.specs.Effect.{context}
use Rattle.execution.specs.Jump.{jump_to}
use Rattle.fast_path.proofs.issuing.jump.Goals as goal

pub returns : goal.returns
unfolding jump_to
returns c enabled turns =
    let a = c.args in
    rw (
      c.set_scalar.ensures,
      ← wrapped (context a.t a.pc enabled a.words turns) a.regs.now a.regs.now a.offset c.requires.1 c.requires.2 (search rules),
      ← c.in_program.ensures,
      c.if-not-in_program.false,
    )
