-- The bytes of a machine record are read as that record.
use Prim.Native.Nat.{ℕ, zero, suc, ◌<◌}
use mathlib.Core.Bool.{true}
use mathlib.Core.List.{List, []}
use mathlib.Core.Option.{none}
use mathlib.Core.Path.{◌≡◌, ap, ◌∙◌}
use native.Mathlib.Omega.{arith}
use lib.ListN.{length}
use Rattle.answer.specs.Refusal.{refused_or}
use Rattle.machine.specs.State.{State, state}
use Rattle.machine.specs.Machine.{zeroed, turns_of}
use Rattle.machine.specs.WellFormed.{well_formed}
use Rattle.image_layout.proofs.Table.{body-up-to, heads-up-to}
use Rattle.image_layout.specs.Layout.{record_kinds, kind_at, position_in, order_of, row_of, body_in, heads_up_to}
use Rattle.image.specs.Claims.{Words, RecordAgain}
use Rattle.image.specs.Image.{body_of, machine_in, record_in}
use Rattle.image.specs.Opening.{no_blocks, record_bytes, opened, opening_number, read_opening}
use Rattle.image.specs.Refusal.{content_number}
use Rattle.image.specs.Types.{Hd, Ti, Newest, Machine}
use Rattle.image.proofs.Refusals.{content-none}
use Rattle.image.proofs.Bodies.{body-length-of}
use Rattle.image.proofs.Written.{machine-held, record-held}

module _ (m : Machine) (h : well_formed m ≡ true) (counts : Words (turns_of m)) where
  abbrev alone : State
  alone = state m [] []

  abbrev bytes : List ℕ
  bytes = record_bytes m

  even : (q : ℕ) → q < record_kinds → (i : ℕ) → i < (row_of no_blocks (kind_at q)).count → length (body_of Newest alone (kind_at q) i) ≡ (row_of no_blocks (kind_at q)).size
  even zero l = body-length-of no_blocks alone Hd tt
  even (suc zero) l = body-length-of no_blocks alone Ti tt
  even (suc (suc q)) l = absurd (omega arith)

  heads : heads_up_to record_kinds no_blocks bytes ≡ true
  unfolding record_bytes
  heads = heads-up-to record_kinds no_blocks (body_of Newest alone) even

  hd : body_in no_blocks bytes Hd 0 ≡ body_of Newest alone Hd 0
  unfolding record_bytes order_of position_in
  hd = body-up-to record_kinds no_blocks (body_of Newest alone) even 0 (omega arith) 0 (omega arith)

  ti : (t : ℕ) → t < 8 → body_in no_blocks bytes Ti t ≡ body_of Newest alone Ti t
  unfolding record_bytes order_of position_in
  ti = body-up-to record_kinds no_blocks (body_of Newest alone) even 1 (omega arith)

  machine : machine_in no_blocks bytes ≡ m
  machine = machine-held no_blocks bytes m h counts hd ti

  accepted : record_in no_blocks bytes ≡ true
  accepted = record-held no_blocks bytes m h counts hd ti

  number : opening_number bytes ≡ none
  unfolding opening_number content_number
  number = content-none (heads_up_to record_kinds no_blocks bytes) (record_in no_blocks bytes) heads accepted

pub record-again : RecordAgain
unfolding read_opening
record-again m h counts =
    (λ i. opened (number m h counts i) (refused_or (number m h counts i) (λ n. zeroed) (machine_in no_blocks (record_bytes m))))
    ∙ ap (opened none) (machine m h counts)
