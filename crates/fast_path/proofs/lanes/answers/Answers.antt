-- `lanes::answers` meets its contract: each compare by one of three, turned or negated.
use Rattle.std.proofs.Common.{◌∙◌, arith}
use Rattle.fast_path.proofs.Compares.{at_most, turned, turned-unsigned, not_equal, not-below, not-above, not-below-unsigned, not-above-unsigned}
use Rattle.fast_path.specs.Types.{Eq, Lt, Ult}
use Rattle.fast_path.proofs.lanes.answers.Goals as goal

pub overflow_sub-result : goal.overflow_sub-result
overflow_sub-result c = omega (arith, at_most Eq _ _ _ c.equal-in-Ne.ensures)

pub overflow_sub-result-in-Ge : goal.overflow_sub-result-in-Ge
overflow_sub-result-in-Ge c = omega (arith, at_most Lt _ _ _ c.signed_below-in-Ge.ensures)

pub overflow_sub-result-in-Le : goal.overflow_sub-result-in-Le
overflow_sub-result-in-Le c = omega (arith, at_most Lt _ _ _ c.signed_below-in-Le.ensures)

pub overflow_sub-result-in-Uge : goal.overflow_sub-result-in-Uge
overflow_sub-result-in-Uge c = omega (arith, at_most Ult _ _ _ c.unsigned_below-in-Uge.ensures)

pub overflow_sub-result-in-Ule : goal.overflow_sub-result-in-Ule
overflow_sub-result-in-Ule c = omega (arith, at_most Ult _ _ _ c.unsigned_below-in-Ule.ensures)

pub returns-in-Ne : goal.returns-in-Ne
returns-in-Ne c = rw (c.in-Ne.is, c.equal-in-Ne.ensures) (not_equal _ _)

pub returns-in-Gt : goal.returns-in-Gt
returns-in-Gt c = rw c.in-Gt.is (c.signed_below.ensures ∙ turned _ _)

pub returns-in-Ge : goal.returns-in-Ge
returns-in-Ge c = rw (c.in-Ge.is, c.signed_below-in-Ge.ensures) (not-below _ _)

pub returns-in-Le : goal.returns-in-Le
returns-in-Le c = rw (c.in-Le.is, c.signed_below-in-Le.ensures) (not-above _ _)

pub returns-in-Ugt : goal.returns-in-Ugt
returns-in-Ugt c = rw c.in-Ugt.is (c.unsigned_below.ensures ∙ turned-unsigned _ _)

pub returns-in-Uge : goal.returns-in-Uge
returns-in-Uge c = rw (c.in-Uge.is, c.unsigned_below-in-Uge.ensures) (not-below-unsigned _ _)

pub returns-in-Ule : goal.returns-in-Ule
returns-in-Ule c = rw (c.in-Ule.is, c.unsigned_below-in-Ule.ensures) (not-above-unsigned _ _)
