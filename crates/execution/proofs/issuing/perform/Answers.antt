-- `issuing::perform` meets its contract: by the test of the program counter, then by the effect of the word.
use Rattle.std.proofs.Common.{sym, ◌∙◌}
use Rattle.machine.specs.State.{state}
use Rattle.execution.proofs.Issues.{performs-outside, performs-word}
use Rattle.execution.proofs.issuing.perform.Goals as goal

-- no word stands there
pub returns-then-not-in_program : goal.returns-then-not-in_program
returns-then-not-in_program c =
    let test = c.in_program in
    let pc = c.scalar-pc in
    let a = c.args in
    rw (c.trap.ensures, c.number.ensures)
    (performs-outside a.program.now (state a.machine a.registers.now a.memory.now) a.t a.turns pc.result pc.ensures
    (sym test.ensures ∙ c.if-not-in_program.true))

-- a word is executed
pub returns : goal.returns
returns c =
    let w = c.word-outcome in
    let test = c.in_program in
    let pc = c.scalar-pc in
    let a = c.args in
    performs-word a.program.now (state a.machine a.registers.now a.memory.now) a.t a.turns pc.result pc.ensures
    (sym test.ensures ∙ c.if-not-in_program.false)
    _ w.ensures c.settle.result _ c.settle.ensures
