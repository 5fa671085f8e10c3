-- Words in order, by the places that the definition of a compare goes by; each compare answers by its row.
use Rattle.std.proofs.Common.{◌≡◌, ℕ, ◌+◌, ◌%◌, ◌^◌, ◌<◌, Bool, true, false, cond, not, eqb, ltb, leb, sym, refl, ap, ◌∙◌, ap₂, arith, ltb-false, ltb-true, le-ltb, lt-ltb, eq-eqb, ne_eqb, le-leb, Option, Some}
use borrow.Author.Tests.{lt-leb}
use Rattle.isa.specs.declared.instruction.CompareOp.{CompareOp}
use Rattle.isa.specs.declared.instruction.CompareOp.TheVariants.{Eq, Ne, Gt, Ge, Lt, Le, Ugt, Uge, Ult, Ule, Feq, Fne, Fgt, Fge, Flt, Fle}
use Rattle.ordering.specs.declared.rows.Kind.{Kind}
use Rattle.ordering.specs.declared.rows.Kind.TheVariants.{Unsigned, Signed}
use Rattle.std.specs.declared.cmp.Ordering.{Ordering}
use Rattle.std.specs.declared.cmp.Ordering.TheVariants.{Less, Equal, Greater}
use Rattle.ordering.specs.declared.rows.CompareRow.{CompareRow}
use Rattle.twos_complement.specs.Word.{rank}
use Rattle.ordering.specs.Order.{order, bias_of, order_biased, row, row_of, counts}
use Rattle.ordering.specs.Claims.{ByRow}
use Rattle.ordering.proofs.FloatRows.{eq-row, ne-row, gt-row, ge-row, lt-row, le-row}
use Rattle.ordering.proofs.Signs.{rank_is}
use Rattle.ordering.proofs.Signed.{signed-order}

-- how one place stands to another
between : ℕ → ℕ → Option Ordering
between a b = cond (ltb a b) (Some Less) (cond (ltb b a) (Some Greater) (Some Equal))

below : (a b : ℕ) → a < b → between a b ≡ Some Less
unfolding between
below a b h = rw (lt-ltb a b h)

equal : (a b : ℕ) → a ≡ b → between a b ≡ Some Equal
unfolding between
equal a b h = rw (le-ltb a b (omega arith), le-ltb b a (omega arith))

above : (a b : ℕ) → b < a → between a b ≡ Some Greater
unfolding between
above a b h = rw (le-ltb a b (omega arith), lt-ltb b a h)

by_rank : (x y : ℕ) → x < 2 ^ 32 → y < 2 ^ 32 → between (rank x) (rank y) ≡ order Signed x y
unfolding between
by_rank x y hx hy =
    ap₂ (λ (s t : Bool). cond s (Some Less) (cond t (Some Greater) (Some Equal))) (signed-order x y hx hy).lt (signed-order y x hy hx).lt

-- ---- the code's orders

-- with its bias added, the order of words of a kind is the unsigned one
pub unbiased : (x y : ℕ) → x < 2 ^ 32 → y < 2 ^ 32 → order_biased (bias_of Unsigned) x y ≡ order Unsigned x y
unbiased x y hx hy =
    let a : (x + 0) % 2 ^ 32 ≡ x = omega arith in
    let b : (y + 0) % 2 ^ 32 ≡ y = omega arith in
    ap₂ (order Unsigned) a b

pub biased : (x y : ℕ) → x < 2 ^ 32 → y < 2 ^ 32 → order_biased (bias_of Signed) x y ≡ order Signed x y
unfolding between
biased x y hx hy = ap₂ between (rank_is x hx) (rank_is y hy) ∙ by_rank x y hx hy

-- ---- each compare answers by its row

-- a test that is as a row says in each of the three orders is what the row counts
module _ (a b : ℕ) (test : Bool) (r : CompareRow) where
  three : (a < b → test ≡ r.below) → (a ≡ b → test ≡ r.equal) → (b < a → test ≡ r.above) → test ≡ counts r (between a b)
  three f g h = go (ltb a b) (ltb b a) refl refl
    where
      go : (s t : Bool) → ltb a b ≡ s → ltb b a ≡ t → test ≡ counts r (between a b)
      go true t p q = f (ltb-true a b p) ∙ sym (ap (counts r) (below a b (ltb-true a b p)))
      go false true p q = h (ltb-true b a q) ∙ sym (ap (counts r) (above a b (ltb-true b a q)))
      go false false p q =
          let e : a ≡ b = omega (arith, ltb-false a b p, ltb-false b a q) in
          g e ∙ sym (ap (counts r) (equal a b e))

module _ (kind : Kind) (a b : ℕ) where
  same : eqb a b ≡ counts (row kind false true false) (between a b)
  same =
      three a b (eqb a b) (row kind false true false) (λ h. ne_eqb a b (λ e. omega arith)) (eq-eqb a b)
      (λ h. ne_eqb a b (λ e. omega arith))

  other : not (eqb a b) ≡ counts (row kind true false true) (between a b)
  other =
      three a b (not (eqb a b)) (row kind true false true) (λ h. ap not (ne_eqb a b (λ e. omega arith))) (λ h. ap not (eq-eqb a b h))
      (λ h. ap not (ne_eqb a b (λ e. omega arith)))

  more : ltb b a ≡ counts (row kind false false true) (between a b)
  more = three a b (ltb b a) (row kind false false true) (λ h. le-ltb b a (omega arith)) (λ h. le-ltb b a (omega arith)) (lt-ltb b a)

  at_least : leb b a ≡ counts (row kind false true true) (between a b)
  at_least = three a b (leb b a) (row kind false true true) (lt-leb b a) (λ h. le-leb b a (omega arith)) (λ h. le-leb b a (omega arith))

  less : ltb a b ≡ counts (row kind true false false) (between a b)
  less = three a b (ltb a b) (row kind true false false) (lt-ltb a b) (λ h. le-ltb a b (omega arith)) (λ h. le-ltb a b (omega arith))

  at_most : leb a b ≡ counts (row kind true true false) (between a b)
  at_most = three a b (leb a b) (row kind true true false) (λ h. le-leb a b (omega arith)) (λ h. le-leb a b (omega arith)) (lt-leb a b)

ranked : (r : CompareRow) (x y : ℕ) → x < 2 ^ 32 → y < 2 ^ 32 → counts r (between (rank x) (rank y)) ≡ counts r (order Signed x y)
ranked r x y hx hy = ap (counts r) (by_rank x y hx hy)

pub by_row : (op : CompareOp) → ByRow (row_of op) op
unfolding between
by_row Eq x y hx hy = same Unsigned x y
by_row Ne x y hx hy = other Unsigned x y
by_row Gt x y hx hy = more Signed (rank x) (rank y) ∙ ranked (row_of Gt) x y hx hy
by_row Ge x y hx hy = at_least Signed (rank x) (rank y) ∙ ranked (row_of Ge) x y hx hy
by_row Lt x y hx hy = less Signed (rank x) (rank y) ∙ ranked (row_of Lt) x y hx hy
by_row Le x y hx hy = at_most Signed (rank x) (rank y) ∙ ranked (row_of Le) x y hx hy
by_row Ugt x y hx hy = more Unsigned x y
by_row Uge x y hx hy = at_least Unsigned x y
by_row Ult x y hx hy = less Unsigned x y
by_row Ule x y hx hy = at_most Unsigned x y
by_row Feq x y hx hy = eq-row x y
by_row Fne x y hx hy = ne-row x y
by_row Fgt x y hx hy = gt-row x y
by_row Fge x y hx hy = ge-row x y
by_row Flt x y hx hy = lt-row x y
by_row Fle x y hx hy = le-row x y
