-- What an outcome picks, and that whole numbers are never unordered.
use mathlib.Core.Path.{◌≡◌, refl, sym, ap, ◌∙◌}
use mathlib.Core.Bool.{Bool, true, false, cond}
use Prim.Native.Nat.{ℕ, ◌^◌, ◌<◌}
use native.Mathlib.Omega.{arith}
use lib.IntN.{pos}
use lib.Signed.{lt_z}
use Rattle.isa.specs.declared.instruction.CompareOp.{CompareOp}
use Rattle.ordering.specs.Compare.{compare}
use Rattle.twos_complement.specs.Word.{value}
use Rattle.ordering.specs.Order.{order, bias_of, order_biased, row_of, pick}
use Rattle.ordering.specs.declared.rows.Kind.{Kind}
use Rattle.ordering.specs.declared.rows.Kind.TheVariants.{Unsigned, Signed, Float}
use Rattle.std.proofs.Common.{Option, Some, None}
use Rattle.std.specs.declared.cmp.Ordering.{Ordering}
use Rattle.std.specs.declared.cmp.Ordering.TheVariants.{Less, Equal, Greater}
use Rattle.ordering.proofs.Ordered.{unbiased, biased, by_row}
use Rattle.compares.specs.Outcome.{is_float, flags_of}

-- picked as flags, or picked and made flags
picks-flags : (o : Option Ordering) (below equal above : Bool) →
    pick o (flags_of below) (flags_of equal) (flags_of above) (flags_of above) ≡ flags_of (pick o below equal above above)
picks-flags (Some Less) below equal above = refl
picks-flags (Some Equal) below equal above = refl
picks-flags (Some Greater) below equal above = refl
picks-flags None below equal above = refl

pub apart : {A : Type 0} (t : Bool) → t ≡ true → t ≡ false → A
apart t e f = absurd (let z : ◌≡◌ {A = ℕ} 0 1 = cc in omega arith)

-- whatever the column of unordered says
module _ (below equal above unordered : Bool) where
  by_tests : (s t : Bool) →
      pick (cond s (Some Less) (cond t (Some Greater) (Some Equal))) below equal above above ≡ pick (cond s (Some Less) (cond t (Some Greater) (Some Equal))) below equal above unordered
  by_tests true t = refl
  by_tests false true = refl
  by_tests false false = refl

  never-unordered : (kind : Kind) (x y : ℕ) → is_float kind ≡ false →
      pick (order kind x y) below equal above above ≡ pick (order kind x y) below equal above unordered
  never-unordered Unsigned x y h = by_tests (lt_z (pos x) (pos y)) (lt_z (pos y) (pos x))
  never-unordered Signed x y h = by_tests (lt_z (value 32 x) (value 32 y)) (lt_z (value 32 y) (value 32 x))
  never-unordered Float x y h = apart true refl h

with-bias : (kind : Kind) (x y : ℕ) → is_float kind ≡ false → x < 2 ^ 32 → y < 2 ^ 32 → order_biased (bias_of kind) x y ≡ order kind x y
with-bias Unsigned x y h = unbiased x y
with-bias Signed x y h = biased x y
with-bias Float x y h = apart true refl h

-- a compare of whole numbers, by the flags of its row and the order with its bias
pub answered : (op : CompareOp) (x y : ℕ) → is_float (row_of op).kind ≡ false → x < 2 ^ 32 → y < 2 ^ 32 →
    pick (order_biased (bias_of (row_of op).kind) x y) (flags_of (row_of op).below) (flags_of (row_of op).equal) (flags_of (row_of op).above) (flags_of (row_of op).above)
    ≡ flags_of (compare op x y)
answered op x y h hx hy =
    let r = row_of op in
    ap (λ (o : Option Ordering). pick o (flags_of r.below) (flags_of r.equal) (flags_of r.above) (flags_of r.above)) (with-bias r.kind x y h hx hy)
    ∙ picks-flags (order r.kind x y) r.below r.equal r.above
    ∙ ap flags_of (never-unordered r.below r.equal r.above r.unordered r.kind x y h ∙ sym (by_row op x y hx hy))
