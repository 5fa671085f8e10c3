-- `taking::take_end` meets its contract.
use Rattle.minute_lines.proofs.Steps.{nothing_left}
use Rattle.minute_lines.specs.Taking.{held, take_end}
use mathlib.Core.Path.{sym, ◌∙◌}
use Rattle.minute_lines.proofs.taking.take_end.Goals as goal

pub returns-then-is_empty : goal.returns-then-is_empty
returns-then-is_empty c =
    let a = c.args in
    let h = a.before in
    nothing_left a.program.now (held h.machine h.kept h.line a.registers.now a.memory.now) a.out.now (sym c.is_empty.ensures ∙ c.if-is_empty.true)

pub returns : goal.returns
unfolding take_end
returns c = rw (sym c.is_empty.ensures ∙ c.if-is_empty.false) c.end_line.ensures
