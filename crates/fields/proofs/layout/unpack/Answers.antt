-- `unpack` meets its contract: by the format that the upper bits say.
use mathlib.Core.Path.{◌∙◌, sym}
use lib.Pow.{shr_mod}
use Rattle.isa.proofs.Formats.{is-R, is-I, is-Movei, is-J, is-C, is-M, is_none}
use Rattle.fields.specs.Numbers.{unpacks, numbers_of}
use Rattle.fields.proofs.layout.unpack.Goals as goal

pub returns-then-w-eq-PREFIX_R : goal.returns-then-w-eq-PREFIX_R
unfolding numbers_of
returns-then-w-eq-PREFIX_R c = c.numbers_as.ensures ∙ sym (is-R unpacks _ (shr_mod 2 30 c.ranges.w.fits ∙ c.if-w-eq-PREFIX_R.true))

pub returns-then-w-eq-PREFIX_I : goal.returns-then-w-eq-PREFIX_I
unfolding numbers_of
returns-then-w-eq-PREFIX_I c = (rw c.short_signed-short.ensures at c.numbers_as-then-w-eq-PREFIX_I.ensures) ∙ sym (is-I unpacks _ (shr_mod 3 29 c.ranges.w.fits ∙ c.if-w-eq-PREFIX_I.true))

pub returns-then-w-eq-PREFIX_MOVEI : goal.returns-then-w-eq-PREFIX_MOVEI
unfolding numbers_of
returns-then-w-eq-PREFIX_MOVEI c = (rw c.immediate_of.ensures at c.numbers_as-then-w-eq-PREFIX_MOVEI.ensures) ∙ sym (is-Movei unpacks _ (shr_mod 5 27 c.ranges.w.fits ∙ c.if-w-eq-PREFIX_MOVEI.true))

pub returns-then-w-eq-PREFIX_J : goal.returns-then-w-eq-PREFIX_J
unfolding numbers_of
returns-then-w-eq-PREFIX_J c = (rw c.long_signed-long.ensures at c.numbers_as-then-w-eq-PREFIX_J.ensures) ∙ sym (is-J unpacks _ (shr_mod 5 27 c.ranges.w.fits ∙ c.if-w-eq-PREFIX_J.true))

pub returns-then-w-eq-PREFIX_C : goal.returns-then-w-eq-PREFIX_C
unfolding numbers_of
returns-then-w-eq-PREFIX_C c = c.numbers_as-then-w-eq-PREFIX_C.ensures ∙ sym (is-C unpacks _ (shr_mod 5 27 c.ranges.w.fits ∙ c.if-w-eq-PREFIX_C.true))

pub returns-then-w-eq-PREFIX_M : goal.returns-then-w-eq-PREFIX_M
unfolding numbers_of
returns-then-w-eq-PREFIX_M c = (rw c.short_signed-short.ensures at c.numbers_as-then-w-eq-PREFIX_M.ensures) ∙ sym (is-M unpacks _ (shr_mod 2 30 c.ranges.w.fits ∙ c.if-w-eq-PREFIX_M.true))

pub returns : goal.returns
unfolding numbers_of
returns c =
    c.numbers_as-2.ensures ∙ sym (is_none unpacks _
    (λ e. c.if-w-eq-PREFIX_R.false (sym (shr_mod 2 30 c.ranges.w.fits) ∙ e))
    (λ e. c.if-w-eq-PREFIX_I.false (sym (shr_mod 3 29 c.ranges.w.fits) ∙ e))
    (λ e. c.if-w-eq-PREFIX_MOVEI.false (sym (shr_mod 5 27 c.ranges.w.fits) ∙ e))
    (λ e. c.if-w-eq-PREFIX_J.false (sym (shr_mod 5 27 c.ranges.w.fits) ∙ e))
    (λ e. c.if-w-eq-PREFIX_C.false (sym (shr_mod 5 27 c.ranges.w.fits) ∙ e))
    (λ e. c.if-w-eq-PREFIX_M.false (sym (shr_mod 2 30 c.ranges.w.fits) ∙ e)))
