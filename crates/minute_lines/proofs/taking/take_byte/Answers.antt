-- `taking::take_byte` meets its contract.
use Rattle.minute_lines.proofs.Steps.{byte-added}
use Rattle.minute_lines.specs.Taking.{held, take_byte}
use borrow.Author.Tests.{eq-eqb}
use Rattle.minute_lines.proofs.taking.take_byte.Goals as goal

pub returns-then-byte-eq10 : goal.returns-then-byte-eq10
unfolding take_byte
returns-then-byte-eq10 c = rw (eq-eqb _ 10 c.if-byte-eq10.true) c.end_line.ensures

pub returns : goal.returns
returns c =
    let a = c.args in
    let h = a.before in
    byte-added a.program.now (held h.machine h.kept h.line a.registers.now a.memory.now) a.byte a.out.now c.if-byte-eq10.false c.with_byte.ensures
