-- The writing of an image from a record's bytes: what the call below answers and leaves, once the lengths and the bytes are accepted.
use Prim.Native.Nat.{ℕ}
use mathlib.Core.Bool.{Bool, true, false, cond}
use mathlib.Core.List.{List}
use mathlib.Core.Option.{Option, none, some}
use mathlib.Core.Path.{◌≡◌, refl, sym, ap, ◌∙◌}
use lib.ListN.{length}
use Rattle.answer.specs.Left.{Left, left}
use Rattle.answer.specs.Refusal.{first_that_applies, refused_or, size_checks, sizes_number}
use Rattle.answer.proofs.Checks.{first-after, either-given}
use Rattle.image_layout.specs.Layout.{fixed_of}
use Rattle.image_layout.specs.declared.layout.Form.{Form}
use Rattle.image.proofs.Openings.{opening-well-formed}
use Rattle.image.proofs.Refusals.{record-loses, record-none, write-number, write-by}
use Rattle.std.proofs.Common.{Result}
use Rattle.answer.specs.declared.refusal.Refusal.{Refusal}
use Rattle.image.specs.Answer.{answered}
use Rattle.image.specs.Calls.{WriteResult, written, write_refusal, write_as as wrote}
use Rattle.image.specs.Image.{image, machine_in}
use Rattle.image.specs.Opening.{no_blocks, opening_checks, opening_number}
use Rattle.image.specs.Refusal.{loses_counts, record_number}
use Rattle.machine.specs.State.{State, state}
use Rattle.machine.specs.WellFormed.{well_formed}
use Rattle.machine.specs.declared.record.Machine.{Machine}
use Rattle.capi.specs.Answer.{number_of}
use Rattle.capi.specs.Images.{write_as}
use Rattle.capi.specs.Refusal.{record_checks, loss_checks, write_number}

module _ (f : Form) (dropping : Bool) (registers memory opening buffer : List ℕ) where
  abbrev m : Machine
  m = machine_in no_blocks opening

  abbrev s : State
  s = state m registers memory

  abbrev checks : Option ℕ
  checks = first_that_applies (record_checks (fixed_of f) (length registers) (length memory) (length buffer) opening)

  abbrev loss : Bool → Option ℕ
  loss b = cond b (some 11) none

  call-number : (o : Option ℕ) → checks ≡ o → write_number f dropping registers memory opening buffer ≡ refused_or o some (loss (loses_counts f dropping m))
  unfolding write_number first_that_applies
  call-number o h =
      first-after (record_checks (fixed_of f) (length registers) (length memory) (length buffer) opening) (loss_checks f dropping opening)
      ∙ ap (λ x. refused_or x some (loss (loses_counts f dropping m))) h

  answer-by : (o : Option ℕ) → write_number f dropping registers memory opening buffer ≡ o
      → refused_or o (λ n. left n buffer) (left 0 (image f s)) ≡ write_as f dropping registers memory opening buffer
  unfolding write_as
  answer-by o e = rw e

  -- the lengths or the bytes are refused
  pub refused-before : (n : ℕ) → checks ≡ some n → left n buffer ≡ write_as f dropping registers memory opening buffer
  refused-before n h = answer-by (some n) (call-number (some n) h)

  -- they are not
  module _ (h : checks ≡ none) where
    both : (sizes_number (fixed_of f) (length registers) (length memory) (length buffer) ≡ none) × (opening_number opening ≡ none)
    unfolding sizes_number opening_number
    both =
        let k = size_checks (fixed_of f) (length registers) (length memory) (length buffer) in
        either-given (first_that_applies k) (first_that_applies (opening_checks opening)) (sym (first-after k (opening_checks opening)) ∙ h)

    formed : well_formed m ≡ true
    formed = opening-well-formed opening both.1

    abbrev told : WriteResult → Left (List ℕ)
    told w = left (number_of w.answer) w.buffer

    -- the call below gives the one number that is left
    below : (o : Option ℕ) → record_number f dropping m ≡ o → write_refusal f dropping s buffer ≡ o
    below o e = sym (write-number f dropping s buffer) ∙ (λ i. refused_or (both.0 i) some (e i))

    fate : (b : Bool) → loses_counts f dropping m ≡ b → told (wrote f dropping s buffer) ≡ write_as f dropping registers memory opening buffer
    fate true e =
        sym (ap told (write-by f dropping s buffer (some 11) (below (some 11) (record-loses f dropping m formed e))))
        ∙ answer-by (some 11) (call-number none h ∙ ap loss e)
    fate false e =
        sym (ap told (write-by f dropping s buffer none (below none (record-none f dropping m formed e))))
        ∙ answer-by none (call-number none h ∙ ap loss e)

    pub write-handed : (r : Result (Unit {0}) Refusal) {x : Machine} {after : List ℕ} → x ≡ m
        → written r after ≡ wrote f dropping (state x registers memory) buffer
        → left (number_of (answered r)) after ≡ write_as f dropping registers memory opening buffer
    write-handed r {after = after} e g =
        let w : written r after ≡ wrote f dropping s buffer = g ∙ ap (λ x. wrote f dropping (state x registers memory) buffer) e in
        ap told w ∙ fate (loses_counts f dropping m) refl
