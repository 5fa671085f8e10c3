-- `running::run_verdict` meets its contract: the two verdicts in order are the checks in order.
use Rattle.std.proofs.Common.{sym, ◌∙◌}
use Rattle.std.proofs.Math.Option.{some}
use Rattle.answer.proofs.Checks.{first-after}
use Rattle.answer.specs.Refusal.{length_checks, lengths_number, row_of, refused_or}
use Rattle.interpreter.specs.Refusal.{record_checks, record_number, run_number}
use Rattle.interpreter.proofs.running.run_verdict.Goals as goal

pub returns : goal.returns
unfolding run_number lengths_number record_number
returns c =
    let a = c.args in
    c.first_refusal.ensures row_of
    ∙ (λ i. refused_or (c.lengths_verdict.ensures i) some (c.record_verdict.ensures i))
    ∙ sym (first-after (length_checks a.words a.regs a.bytes) (record_checks a.machine))
