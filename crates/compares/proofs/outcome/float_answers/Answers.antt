-- `outcome::float_answers` meets its contract: each arm asks the lanes for the columns of its row; the compares of whole numbers don't come here.
use Rattle.std.proofs.Common.{sym, ◌∙◌}
use Rattle.ordering.proofs.FloatRows.{eq-row, ne-row, gt-row, ge-row, lt-row, le-row}
use Rattle.compares.specs.Outcome.{answers_of}
use Rattle.compares.proofs.LaneFlags.{same-mask}
use Rattle.compares.proofs.outcome.float_answers.Goals as goal

pub returns-in-Feq : goal.returns-in-Feq
unfolding answers_of
returns-in-Feq c = rw c.in-Feq.is (c.each_float.ensures ∙ same-mask 16 _ _ (λ j. sym (eq-row _ _)))

pub returns-in-Fne : goal.returns-in-Fne
unfolding answers_of
returns-in-Fne c = rw c.in-Fne.is (c.each_float-in-Fne.ensures ∙ same-mask 16 _ _ (λ j. sym (ne-row _ _)))

pub returns-in-Fgt : goal.returns-in-Fgt
unfolding answers_of
returns-in-Fgt c = rw c.in-Fgt.is (c.each_float-in-Fgt.ensures ∙ same-mask 16 _ _ (λ j. sym (gt-row _ _)))

pub returns-in-Fge : goal.returns-in-Fge
unfolding answers_of
returns-in-Fge c = rw c.in-Fge.is (c.each_float-in-Fge.ensures ∙ same-mask 16 _ _ (λ j. sym (ge-row _ _)))

pub returns-in-Flt : goal.returns-in-Flt
unfolding answers_of
returns-in-Flt c = rw c.in-Flt.is (c.each_float-in-Flt.ensures ∙ same-mask 16 _ _ (λ j. sym (lt-row _ _)))

pub returns-in-Fle : goal.returns-in-Fle
unfolding answers_of
returns-in-Fle c = rw c.in-Fle.is (c.each_float-in-Fle.ensures ∙ same-mask 16 _ _ (λ j. sym (le-row _ _)))
