-- The run with a budget of one is not refused.
use Rattle.trace.proofs.Rules.{taken-ok}
use Rattle.machine.specs.State.{state}
use Rattle.trace.proofs.tracing.advance.Goals as goal

pub unwrap-one-requires : goal.unwrap-one-requires
unwrap-one-requires c =
    let a = c.args in
    taken-ok a.program.now 1 (state a.so_far.machine a.registers.now a.memory.now) _ _ _ _ c.requires c.run.ensures
