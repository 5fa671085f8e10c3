-- How many the bytes of a machine record are, that what is accepted of them is well formed, and its image opens with them.
use Prim.Native.Nat.{ℕ, zero, suc}
use mathlib.Core.Bool.{true, and-eq-true_iff}
use mathlib.Core.List.{List, [], ◌++◌}
use mathlib.Core.Option.{none}
use mathlib.Core.Path.{◌≡◌, ap, ◌∙◌}
use native.Mathlib.Omega.{arith}
use lib.ListN.{length, length-append}
use lib.Seq.{take_all, take-append-le}
use Rattle.answer.specs.Refusal.{refused_or}
use Rattle.machine.specs.State.{State, state}
use Rattle.machine.specs.Machine.{zeroed}
use Rattle.machine.specs.WellFormed.{well_formed}
use Rattle.image_layout.proofs.Rows.{section-length}
use Rattle.image_layout.specs.Join.{total, concat_below, all_below}
use Rattle.image_layout.specs.Layout.{record_kinds, row_of, laid_out, section_of, start_of, heads_up_to}
use Rattle.image.specs.Claims.{OpensWith}
use Rattle.image.specs.Image.{shape_of, SuitsUpTo, body_of, image, is_entry, entry_in, machine_in, record_in}
use Rattle.image.specs.Opening.{no_blocks, record_bytes, record_length, opening_number, read_opening}
use Rattle.image.specs.Refusal.{content_number}
use Rattle.image.specs.Types.{Hd, Ti, Sr, Vr, Mm, Newest, Machine}
use Rattle.image.proofs.Refusals.{content-good}
use Rattle.image.proofs.Bodies.{body-length-of}

pub opening-start : start_of no_blocks record_kinds ≡ record_length
unfolding start_of total
opening-start = omega arith

-- they ask for no register and no memory
pub opening-suits : SuitsUpTo record_kinds no_blocks [] []
opening-suits zero l = tt
opening-suits (suc zero) l = tt
opening-suits (suc (suc q)) l = absurd (omega arith)

module _ (m : Machine) where
  abbrev alone : State
  alone = state m [] []

  pub hd-length : length (section_of (row_of no_blocks Hd) (body_of Newest alone Hd)) ≡ 4
  hd-length = section-length (row_of no_blocks Hd) (body_of Newest alone Hd) (body-length-of no_blocks alone Hd tt)

  pub ti-length : length (section_of (row_of no_blocks Ti) (body_of Newest alone Ti)) ≡ 88
  ti-length = section-length (row_of no_blocks Ti) (body_of Newest alone Ti) (body-length-of no_blocks alone Ti tt)

  pub opening-length : length (record_bytes m) ≡ record_length
  unfolding record_bytes concat_below
  opening-length =
      omega (arith, length-append (section_of (row_of no_blocks Hd) (body_of Newest alone Hd)) (section_of (row_of no_blocks Ti) (body_of Newest alone Ti)), hd-length, ti-length)

module _ (l : List ℕ) (h : opening_number l ≡ none) where
  pub opening-machine : (read_opening l).machine ≡ machine_in no_blocks l
  unfolding read_opening
  opening-machine = ap (λ o. refused_or o (λ n. zeroed) (machine_in no_blocks l)) h

  pub opening-well-formed : well_formed (machine_in no_blocks l) ≡ true
  unfolding opening_number content_number record_in
  opening-well-formed = ((and-eq-true_iff (all_below 8 (λ t. is_entry (entry_in no_blocks l t))) (well_formed (machine_in no_blocks l))).0 (content-good (heads_up_to record_kinds no_blocks l) (record_in no_blocks l) h).1).1

-- and an image opens with them
pub opens-with : OpensWith
unfolding image laid_out concat_below record_bytes
opens-with s =
    let w = shape_of Newest s.memory in
    let x = record_bytes s.machine in
    let sr = section_of (row_of w Sr) (body_of Newest s Sr) in
    let vr = section_of (row_of w Vr) (body_of Newest s Vr) in
    let mm = section_of (row_of w Mm) (body_of Newest s Mm) in
    let l = opening-length s.machine in
    let one = length-append x sr in
    let two = length-append (x ++ sr) vr in
    take-append-le record_length ((x ++ sr) ++ vr) mm (omega (arith, l, one, two))
    ∙ (take-append-le record_length (x ++ sr) vr (omega (arith, l, one)) ∙ (take-append-le record_length x sr (omega (arith, l)) ∙ take_all record_length x (omega (arith, l))))
