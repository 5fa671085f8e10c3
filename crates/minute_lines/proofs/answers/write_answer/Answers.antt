-- The text has room.
use native.Mathlib.Omega.{arith}
use Rattle.minute_lines.proofs.Texts.{report-whole, refusal-whole}
use mathlib.Core.Path.{◌∙◌}
use Rattle.minute_lines.proofs.answers.write_answer.Goals as goal

pub returns-in-Ok : goal.returns-in-Ok
returns-in-Ok c = rw c.in-Ok.is (c.put_report.ensures ∙ report-whole c.args.out.now _ _ _ (omega arith))

pub returns-in-Err : goal.returns-in-Err
returns-in-Err c = rw (c.in-Err.is) (rw c.number.ensures at (c.put_refusal.ensures ∙ refusal-whole c.args.out.now _ (omega arith)))
