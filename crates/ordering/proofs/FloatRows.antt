-- Floats in order, by three tests that exclude one another; each float compare is what its row counts.
use Rattle.std.proofs.Common.{◌≡◌, ℕ, Bool, true, false, not, ◌||◌, sym, refl, ap, ◌∙◌, true≢false}
use Rattle.isa.specs.declared.instruction.CompareOp.TheVariants.{Feq, Fne, Fgt, Fge, Flt, Fle}
use Rattle.ordering.specs.Compare.{compare}
use Rattle.ordering.specs.Order.{outcome, row_of, counts, answer}
use Rattle.float.specs.Floats.{value, flt_of, feq_of, fgt_of}
use Rattle.float.proofs.Comparing.{less-once, less-apart, equal-turned, differs, at_most}

-- at most one of three tests passes
pub record Exclusive (less same greater : Bool) : Type 0 where
  pub less-same : less ≡ true → same ≡ false
  pub less-greater : less ≡ true → greater ≡ false
  pub same-greater : same ≡ true → greater ≡ false

-- then each compare is what its row counts
record Rows (less same greater : Bool) : Type 0 where
  eq : same ≡ counts (row_of Feq) (outcome less same greater)
  ne : not same ≡ counts (row_of Fne) (outcome less same greater)
  gt : greater ≡ counts (row_of Fgt) (outcome less same greater)
  ge : (greater || same) ≡ counts (row_of Fge) (outcome less same greater)
  lt : less ≡ counts (row_of Flt) (outcome less same greater)
  le : (less || same) ≡ counts (row_of Fle) (outcome less same greater)

rows : (less same greater : Bool) → Exclusive less same greater → Rows less same greater
rows true true greater h = absurd (true≢false (h.less-same refl))
rows true false true h = absurd (true≢false (h.less-greater refl))
rows false true true h = absurd (true≢false (h.same-greater refl))
rows true false false h = record { eq = refl; ne = refl; gt = refl; ge = refl; lt = refl; le = refl }
rows false true false h = record { eq = refl; ne = refl; gt = refl; ge = refl; lt = refl; le = refl }
rows false false true h = record { eq = refl; ne = refl; gt = refl; ge = refl; lt = refl; le = refl }
rows false false false h = record { eq = refl; ne = refl; gt = refl; ge = refl; lt = refl; le = refl }

not-also : (s t : Bool) → (s ≡ true → t ≡ false) → t ≡ true → s ≡ false
not-also true t h e = absurd (true≢false (sym e ∙ h refl))
not-also false t h e = refl

pub exclusive : (x y : ℕ) → Exclusive (flt_of x y) (feq_of x y) (fgt_of x y)
exclusive x y = record {
  less-same = less-apart (value x) (value y);
  less-greater = less-once (value x) (value y);
  same-greater = not-also (fgt_of x y) (feq_of x y) (λ e. sym (equal-turned (value x) (value y)) ∙ less-apart (value y) (value x) e);
}

module _ (x y : ℕ) where
  counted : Rows (flt_of x y) (feq_of x y) (fgt_of x y)
  counted = rows (flt_of x y) (feq_of x y) (fgt_of x y) (exclusive x y)

  pub eq-row : compare Feq x y ≡ answer (row_of Feq) x y
  eq-row = counted.eq

  pub ne-row : compare Fne x y ≡ answer (row_of Fne) x y
  ne-row = differs (value x) (value y) ∙ counted.ne

  pub gt-row : compare Fgt x y ≡ answer (row_of Fgt) x y
  gt-row = counted.gt

  pub ge-row : compare Fge x y ≡ answer (row_of Fge) x y
  ge-row = at_most (value y) (value x) ∙ ap (λ (t : Bool). fgt_of x y || t) (equal-turned (value x) (value y)) ∙ counted.ge

  pub lt-row : compare Flt x y ≡ answer (row_of Flt) x y
  lt-row = counted.lt

  pub le-row : compare Fle x y ≡ answer (row_of Fle) x y
  le-row = at_most (value x) (value y) ∙ counted.le
