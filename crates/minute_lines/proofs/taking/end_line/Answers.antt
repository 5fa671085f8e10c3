-- What is held then is by the call's answer, and so is the text.
use Rattle.minute_lines.proofs.Steps.{line-ended}
use Rattle.minute_lines.specs.Taking.{held_in}
use Rattle.minute_lines.proofs.taking.end_line.Goals as goal

pub returns : goal.returns
returns c =
    let a = c.args in
    rw c.after.ensures
    (line-ended a.program.now (held_in a.before a.registers.now a.memory.now) a.out.now c.tick_on-answer.result a.before _ _ c.tick_on-answer.ensures c.write_answer-printed.ensures)
