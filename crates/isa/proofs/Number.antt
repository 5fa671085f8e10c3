-- The number of a MOVEI word's field, signed or not, has that field again.
use Rattle.std.proofs.Common.{◌≡◌, ℕ, ◌-◌, ◌^◌, ◌<◌, true, refl, mod-eq_of_lt, eq-eqb, eqb-true}
use Rattle.word_layout.proofs.Signed.{truncated-signed}
use Rattle.isa.specs.Number.{number_movei, field_movei, fits_movei}
use Rattle.isa.specs.Types.{MoveiOp, Low, High, Whole}

pub field-number : (op : MoveiOp) (n : ℕ) → n < 2 ^ 16 → field_movei (number_movei op n) ≡ n
field-number Low n l = mod-eq_of_lt l
field-number High n l = mod-eq_of_lt l
field-number Whole n l = truncated-signed (2 ^ 15) (2 ^ 16 - 1) refl n l

pub fits-number : (op : MoveiOp) (n : ℕ) → n < 2 ^ 16 → fits_movei op (number_movei op n) ≡ true
unfolding fits_movei
fits-number op n l = rw (field-number op n l) (eq-eqb (number_movei op n) (number_movei op n) refl)

pub number-field : (op : MoveiOp) (n : ℕ) → fits_movei op n ≡ true → number_movei op (field_movei n) ≡ n
unfolding fits_movei
number-field op n t = eqb-true _ _ t
