-- `outcome::answers` meets its contract: the row's kind tells floats from whole numbers.
use Rattle.std.proofs.Common.{sym, ap, ◌∙◌}
use Rattle.ordering.specs.declared.rows.CompareRow.{CompareRow}
use Rattle.compares.specs.Outcome.{is_float}
use Rattle.compares.proofs.outcome.answers.Goals as goal

pub float_answers-requires : goal.float_answers-requires
float_answers-requires c =
    ap (λ (r : CompareRow). is_float r.kind) (sym c.compare_row-row.ensures) ∙ ap is_float c.in-Float.is
