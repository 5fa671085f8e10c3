-- `jump::jump_and_link` meets its contract: by the test of the target, which comes first.
use Rattle.std.proofs.Common.{rules}
use Rattle.execution.proofs.Targets.{wrapped}
use Rattle.execution.specs.Jump.{jump_to, linked}
use Rattle.execution.proofs.jump.jump_and_link.Goals as goal

pub returns-then-not-in_program : goal.returns-then-not-in_program
unfolding jump_to
returns-then-not-in_program c =
    let a = c.args in
    rw (
      ← wrapped a.context a.regs.now (linked a.context a.regs.now) a.offset (search rules) (search rules) (search rules),
      ← c.in_program.ensures,
      c.if-not-in_program.true,
    )

pub returns : goal.returns
unfolding jump_to
returns c =
    let a = c.args in
    rw (
      ← wrapped a.context a.regs.now (linked a.context a.regs.now) a.offset (search rules) (search rules) (search rules),
      ← c.in_program.ensures,
      c.if-not-in_program.false,
      c.set_scalar-2.ensures,
      c.set_scalar.ensures,
    )
