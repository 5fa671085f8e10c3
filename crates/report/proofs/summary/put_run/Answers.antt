-- By how the run ended: each word is short, so that the text has room.
use native.Mathlib.Omega.{arith}
use mathlib.Core.Path.{◌∙◌}
use lib.Dec.{lit≤}
use Rattle.isa.specs.Text.{bytes}
use Rattle.report.proofs.Lengths.{body-whole}
use Rattle.report.specs.Report.{report}
use Rattle.report.proofs.summary.put_run.Goals as goal

pub returns-in-Stopped : goal.returns-in-Stopped
unfolding report bytes
returns-in-Stopped c =
    let x = c.args in
    rw c.in-Stopped.is
    (c.put_body.ensures ∙ body-whole x.out.now (bytes "stopped") x.run.issues x.run.machine x.registers.now (omega arith) (lit≤ tt))

pub returns-in-Stuck : goal.returns-in-Stuck
unfolding report bytes
returns-in-Stuck c =
    let x = c.args in
    rw c.in-Stuck.is
    (c.put_body-in-Stuck.ensures ∙ body-whole x.out.now (bytes "stuck") x.run.issues x.run.machine x.registers.now (omega arith) (lit≤ tt))

pub returns-in-Spent : goal.returns-in-Spent
unfolding report bytes
returns-in-Spent c =
    let x = c.args in
    rw c.in-Spent.is
    (c.put_body-in-Spent.ensures ∙ body-whole x.out.now (bytes "spent") x.run.issues x.run.machine x.registers.now (omega arith) (lit≤ tt))
