-- `read_word` meets its contract: by the format that the upper bits say.
use Rattle.std.proofs.Common.{sym, ◌∙◌}
use lib.Pow.{shr_mod}
use Rattle.isa.proofs.Formats.{is-R, is-I, is-Movei, is-J, is-C, is-M, is_none}
use Rattle.isa.specs.Read.{reads, read}
use Rattle.isa.proofs.read.read_word.Goals as goal

pub returns-then-w-eq-PREFIX_R : goal.returns-then-w-eq-PREFIX_R
unfolding read
returns-then-w-eq-PREFIX_R c = c.read_r.ensures ∙ sym (is-R reads _ (shr_mod 2 30 c.ranges.w.fits ∙ c.if-w-eq-PREFIX_R.true))

pub returns-then-w-eq-PREFIX_M : goal.returns-then-w-eq-PREFIX_M
unfolding read
returns-then-w-eq-PREFIX_M c = c.read_m.ensures ∙ sym (is-M reads _ (shr_mod 2 30 c.ranges.w.fits ∙ c.if-w-eq-PREFIX_M.true))

pub returns-then-w-eq-PREFIX_I : goal.returns-then-w-eq-PREFIX_I
unfolding read
returns-then-w-eq-PREFIX_I c = c.read_i.ensures ∙ sym (is-I reads _ (shr_mod 3 29 c.ranges.w.fits ∙ c.if-w-eq-PREFIX_I.true))

pub returns-then-w-eq-PREFIX_MOVEI : goal.returns-then-w-eq-PREFIX_MOVEI
unfolding read
returns-then-w-eq-PREFIX_MOVEI c = c.read_movei.ensures ∙ sym (is-Movei reads _ (shr_mod 5 27 c.ranges.w.fits ∙ c.if-w-eq-PREFIX_MOVEI.true))

pub returns-then-w-eq-PREFIX_J : goal.returns-then-w-eq-PREFIX_J
unfolding read
returns-then-w-eq-PREFIX_J c = c.read_j.ensures ∙ sym (is-J reads _ (shr_mod 5 27 c.ranges.w.fits ∙ c.if-w-eq-PREFIX_J.true))

pub returns-then-w-eq-PREFIX_C : goal.returns-then-w-eq-PREFIX_C
unfolding read
returns-then-w-eq-PREFIX_C c = c.read_c.ensures ∙ sym (is-C reads _ (shr_mod 5 27 c.ranges.w.fits ∙ c.if-w-eq-PREFIX_C.true))

pub returns : goal.returns
unfolding read
returns c =
    sym (is_none reads _
    (λ e. c.if-w-eq-PREFIX_R.false (sym (shr_mod 2 30 c.ranges.w.fits) ∙ e))
    (λ e. c.if-w-eq-PREFIX_I.false (sym (shr_mod 3 29 c.ranges.w.fits) ∙ e))
    (λ e. c.if-w-eq-PREFIX_MOVEI.false (sym (shr_mod 5 27 c.ranges.w.fits) ∙ e))
    (λ e. c.if-w-eq-PREFIX_J.false (sym (shr_mod 5 27 c.ranges.w.fits) ∙ e))
    (λ e. c.if-w-eq-PREFIX_C.false (sym (shr_mod 5 27 c.ranges.w.fits) ∙ e))
    (λ e. c.if-w-eq-PREFIX_M.false (sym (shr_mod 2 30 c.ranges.w.fits) ∙ e)))
