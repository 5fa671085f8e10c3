-- `issuing::word` meets its contract: an action by what it does.
use Rattle.execution.specs.Effect.{context}
use Rattle.fast_path.proofs.Trying.{tries-action}
use Rattle.fast_path.proofs.issuing.word.Goals as goal

pub returns-in_default-action : goal.returns-in_default-action
returns-in_default-action c enabled turns =
    let a = c.args in
    tries-action (context a.t a.pc enabled a.words turns) a.w c.first-d.result c.first-d.ensures.0 a.regs.now a.memory.now
    c.action.result (c.action.ensures _ enabled _ turns) c.act.result _ (c.act.ensures enabled turns)
