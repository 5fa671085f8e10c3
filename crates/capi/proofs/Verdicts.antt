-- The number of a call that takes lengths and a machine record's bytes: that of the lengths, and then that of the bytes.
use Prim.Native.Nat.{ℕ}
use mathlib.Core.List.{List, ◌++◌}
use mathlib.Core.Option.{none, some}
use mathlib.Core.Path.{◌≡◌, sym, ap, ◌∙◌}
use Rattle.answer.specs.Refusal.{Check, first_that_applies, refused_or}
use Rattle.answer.proofs.Checks.{first-after}
use Rattle.image.proofs.Openings.{opening-machine}
use Rattle.image.specs.Image.{machine_in}
use Rattle.image.specs.Opening.{no_blocks, opening_checks, opening_number, opened, read_opening}
use Rattle.machine.specs.declared.record.Machine.{Machine}

module _ (checks : List Check) (l : List ℕ) where
  -- the checks in order
  in_order : refused_or (first_that_applies checks) some (opening_number l) ≡ first_that_applies (checks ++ opening_checks l)
  unfolding opening_number
  in_order = sym (first-after checks (opening_checks l))

  pub lengths-refused : (n : ℕ) → some n ≡ first_that_applies checks → some n ≡ first_that_applies (checks ++ opening_checks l)
  lengths-refused n h = ap (λ o. refused_or o some (opening_number l)) h ∙ in_order

  -- where the lengths are accepted, the bytes say the number and the record
  module _ (a : none ≡ first_that_applies checks) where
    pub record-refused : (n : ℕ) (m : Machine) → opened (some n) m ≡ read_opening l → some n ≡ first_that_applies (checks ++ opening_checks l)
    unfolding read_opening
    record-refused n m b = ap (λ o. o.number) b ∙ (ap (λ o. refused_or o some (opening_number l)) a ∙ in_order)

    module _ (m : Machine) (b : opened none m ≡ read_opening l) where
      pub opening-none : opening_number l ≡ none
      unfolding read_opening
      opening-none = sym (ap (λ o. o.number) b)

      pub all-accepted : none ≡ first_that_applies (checks ++ opening_checks l)
      all-accepted = sym opening-none ∙ (ap (λ o. refused_or o some (opening_number l)) a ∙ in_order)

      pub machine-is : m ≡ machine_in no_blocks l
      machine-is = ap (λ o. o.machine) b ∙ opening-machine l opening-none
