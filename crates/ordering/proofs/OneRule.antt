-- The compares as one rule: proofs of the claims. What holds of two rows holds of the compares that have them.
use Rattle.std.proofs.Common.{◌≡◌, ℕ, Bool, true, false, cond, not, T, ℤ, pos, negsuc, sym, refl, ap, ◌∙◌, subst, true≢false, arith, ltb-false, ltb-true, le-ltb, Option, Some, None}
use mathlib.Core.Option.{some}
use lib.Signed.{lt_z, lt_z_yes}
use Rattle.isa.specs.Table.{find, operation_at, table_r}
use Rattle.isa.specs.declared.instruction.Operation.TheVariants.{Compare}
use Rattle.isa.specs.declared.instruction.CompareOp.{CompareOp}
use Rattle.isa.specs.declared.instruction.CompareOp.TheVariants.{Eq, Ne, Gt, Ge, Lt, Le, Ugt, Uge, Ult, Ule, Feq, Fne, Fgt, Fge, Flt, Fle}
use Rattle.std.specs.declared.cmp.Ordering.{Ordering}
use Rattle.std.specs.declared.cmp.Ordering.TheVariants.{Less, Equal, Greater}
use Rattle.ordering.specs.declared.rows.CompareRow.{CompareRow}
use Rattle.ordering.specs.declared.rows.Kind.{Kind}
use Rattle.ordering.specs.declared.rows.Kind.TheVariants.{Unsigned, Signed, Float}
use Rattle.twos_complement.specs.Word.{value}
use Rattle.ordering.specs.Order.{ordering, outcome, order, row_of, counts, answer}
use Rattle.float.specs.Floats.{value as float, flt_of, feq_of, fgt_of}
use Rattle.float.proofs.Comparing.{equal-turned}
use Rattle.ordering.specs.Claims.{OrdersNumbers, Opposite, Exchanged, At, EachByRow, EachFloatByRow, PairsOpposite, PairsExchanged}
use Rattle.ordering.proofs.FloatRows.{Exclusive, exclusive}
use Rattle.ordering.proofs.Ordered.{by_row}

-- ---- whole numbers in order

not-both : (z w : ℤ) → lt_z z w ≡ true → lt_z w z ≡ false
not-both (pos a) (pos b) e = le-ltb b a (omega (arith, ltb-true a b e))
not-both (pos a) (negsuc b) e = absurd (true≢false (sym e))
not-both (negsuc a) (pos b) e = refl
not-both (negsuc a) (negsuc b) e = le-ltb a b (omega (arith, ltb-true b a e))

neither : (z w : ℤ) → lt_z z w ≡ false → lt_z w z ≡ false → z ≡ w
neither (pos a) (pos b) e f = ap pos (omega (arith, ltb-false a b e, ltb-false b a f))
neither (pos a) (negsuc b) e f = absurd (true≢false f)
neither (negsuc a) (pos b) e f = absurd (true≢false e)
neither (negsuc a) (negsuc b) e f = ap negsuc (omega (arith, ltb-false b a e, ltb-false a b f))

itself : (z : ℤ) → lt_z z z ≡ false
itself (pos a) = le-ltb a a (omega arith)
itself (negsuc a) = le-ltb a a (omega arith)

is_true : (t : Bool) → T t → t ≡ true
is_true true h = refl
is_true false h = absurd h

-- what an outcome says of the two tests
told_below : (s t : Bool) → cond s (Some Less) (cond t (Some Greater) (Some Equal)) ≡ Some Less → s ≡ true
told_below true t e = refl
told_below false true e = cc
told_below false false e = cc

told-equal : (s t : Bool) → cond s (Some Less) (cond t (Some Greater) (Some Equal)) ≡ Some Equal → (s ≡ false) × (t ≡ false)
told-equal true t e = (cc, cc)
told-equal false true e = (refl, cc)
told-equal false false e = (refl, refl)

told-above : (s t : Bool) → cond s (Some Less) (cond t (Some Greater) (Some Equal)) ≡ Some Greater → t ≡ true
told-above true t e = cc
told-above false true e = refl
told-above false false e = cc

pub orders-numbers : OrdersNumbers
orders-numbers z w = record {
  below = (
    (λ e. lt_z_yes (subst T (sym (told_below (lt_z z w) (lt_z w z) e)) tt)),
    (λ h. ap (λ (s : Bool). cond s (Some Less) (cond (lt_z w z) (Some Greater) (Some Equal))) (is_true (lt_z z w) h.lt)),
  );
  equal = (
    (λ e. let f = told-equal (lt_z z w) (lt_z w z) e in neither z w f.0 f.1),
    (λ e. rw (ap (lt_z z) (sym e) ∙ itself z, ap (λ (v : ℤ). lt_z v z) (sym e) ∙ itself z)),
  );
  above = (
    (λ e. lt_z_yes (subst T (sym (told-above (lt_z z w) (lt_z w z) e)) tt)),
    (λ h. let t = is_true (lt_z w z) h.lt in rw (not-both w z t, t)),
  );
}

-- ---- what holds of two rows holds of the compares that have them

-- whole numbers are never unordered
abbrev Ordered : Option Ordering → Type 0
Ordered (Some Less) = Unit {0}
Ordered (Some Equal) = Unit {0}
Ordered (Some Greater) = Unit {0}
Ordered None = ⊥

abbrev Whole : Kind → Type 0
Whole Unsigned = Unit {0}
Whole Signed = Unit {0}
Whole Float = ⊥

ordered : (s t : Bool) → Ordered (cond s (Some Less) (cond t (Some Greater) (Some Equal)))
ordered true t = tt
ordered false true = tt
ordered false false = tt

whole-ordered : (kind : Kind) → Whole kind → (x y : ℕ) → Ordered (order kind x y)
whole-ordered Unsigned w x y = ordered (lt_z (pos x) (pos y)) (lt_z (pos y) (pos x))
whole-ordered Signed w x y = ordered (lt_z (value 32 x) (value 32 y)) (lt_z (value 32 y) (value 32 x))
whole-ordered Float w x y = absurd w

-- a row that answers oppositely of what is ordered
negated : CompareRow → CompareRow
negated r = record { kind = r.kind; below = not r.below; equal = not r.equal; above = not r.above; unordered = r.unordered }

counts-negated : (r : CompareRow) (o : Option Ordering) → Ordered o → counts (negated r) o ≡ not (counts r o)
unfolding negated
counts-negated r (Some Less) h = refl
counts-negated r (Some Equal) h = refl
counts-negated r (Some Greater) h = refl
counts-negated r None h = absurd h

opposite : (p q : CompareOp) → row_of q ≡ negated (row_of p) → Whole (row_of p).kind → Opposite p q
unfolding negated
opposite p q e w x y hx hy =
    by_row q x y hx hy
    ∙ ap (λ (r : CompareRow). answer r x y) e
    ∙ counts-negated (row_of p) (order (row_of p).kind x y) (whole-ordered (row_of p).kind w x y)
    ∙ ap not (sym (by_row p x y hx hy))

-- a row that answers alike with operands exchanged
mirrored : CompareRow → CompareRow
mirrored r = record { kind = r.kind; below = r.above; equal = r.equal; above = r.below; unordered = r.unordered }

turned : Option Ordering → Option Ordering
turned (Some Less) = Some Greater
turned (Some Equal) = Some Equal
turned (Some Greater) = Some Less
turned None = None

counts-turned : (r : CompareRow) (o : Option Ordering) → counts (mirrored r) (turned o) ≡ counts r o
unfolding mirrored turned
counts-turned r (Some Less) = refl
counts-turned r (Some Equal) = refl
counts-turned r (Some Greater) = refl
counts-turned r None = refl

ordering-turned : (z w : ℤ) → ordering w z ≡ turned (ordering z w)
unfolding turned
ordering-turned z w = go (lt_z z w) (lt_z w z) (not-both z w)
  where
    go : (s t : Bool) → (s ≡ true → t ≡ false) → cond t (Some Less) (cond s (Some Greater) (Some Equal)) ≡ turned (cond s (Some Less) (cond t (Some Greater) (Some Equal)))
    go true true h = absurd (true≢false (h refl))
    go true false h = refl
    go false true h = refl
    go false false h = refl

outcome-turned : (less same greater : Bool) → Exclusive less same greater → outcome greater same less ≡ turned (outcome less same greater)
unfolding turned
outcome-turned true true greater h = absurd (true≢false (h.less-same refl))
outcome-turned true false true h = absurd (true≢false (h.less-greater refl))
outcome-turned false true true h = absurd (true≢false (h.same-greater refl))
outcome-turned true false false h = refl
outcome-turned false true false h = refl
outcome-turned false false true h = refl
outcome-turned false false false h = refl

order-turned : (kind : Kind) (x y : ℕ) → order kind y x ≡ turned (order kind x y)
order-turned Unsigned x y = ordering-turned (pos x) (pos y)
order-turned Signed x y = ordering-turned (value 32 x) (value 32 y)
order-turned Float x y =
    ap (λ (same : Bool). outcome (fgt_of x y) same (flt_of x y)) (equal-turned (float x) (float y))
    ∙ outcome-turned (flt_of x y) (feq_of x y) (fgt_of x y) (exclusive x y)

exchanged : (p q : CompareOp) → row_of q ≡ mirrored (row_of p) → Exchanged p q
unfolding mirrored
exchanged p q e x y hx hy =
    let r : CompareRow = row_of p in
    by_row q y x hy hx
    ∙ ap (λ (s : CompareRow). answer s y x) e
    ∙ ap (counts (mirrored r)) (order-turned r.kind x y)
    ∙ counts-turned r (order r.kind x y)
    ∙ sym (by_row p x y hx hy)

-- ---- by opcodes

at : {n : ℕ} {P : CompareOp → Type 0} (op : CompareOp) → operation_at table_r n ≡ some (Compare op) → P op → At n P
at op e h = record { op = op; named = e; holds = h }

pub each-by-row : EachByRow
unfolding EachByRow find
each-by-row = (
  at Eq refl (by_row Eq),
  (
    at Ne refl (by_row Ne),
    (
      at Gt refl (by_row Gt),
      (
        at Ge refl (by_row Ge),
        (
          at Lt refl (by_row Lt),
          (
            at Le refl (by_row Le),
            (at Ugt refl (by_row Ugt), (at Uge refl (by_row Uge), (at Ult refl (by_row Ult), (at Ule refl (by_row Ule), tt)))),
          ),
        ),
      ),
    ),
  ),
)

pub each-float-by-row : EachFloatByRow
unfolding EachFloatByRow find
each-float-by-row = (
  at Feq refl (by_row Feq),
  (at Fne refl (by_row Fne), (at Fgt refl (by_row Fgt), (at Fge refl (by_row Fge), (at Flt refl (by_row Flt), (at Fle refl (by_row Fle), tt))))),
)

pub pairs-opposite : PairsOpposite
unfolding PairsOpposite find negated
pairs-opposite = (
  at Eq refl (at Ne refl (opposite Eq Ne refl tt)),
  (
    at Gt refl (at Le refl (opposite Gt Le refl tt)),
    (
      at Ge refl (at Lt refl (opposite Ge Lt refl tt)),
      (
        at Ugt refl (at Ule refl (opposite Ugt Ule refl tt)),
        (at Uge refl (at Ult refl (opposite Uge Ult refl tt)), tt),
      ),
    ),
  ),
)

pub pairs-exchanged : PairsExchanged
unfolding PairsExchanged find mirrored
pairs-exchanged = (
  at Gt refl (at Lt refl (exchanged Gt Lt refl)),
  (
    at Ge refl (at Le refl (exchanged Ge Le refl)),
    (
      at Ugt refl (at Ult refl (exchanged Ugt Ult refl)),
      (at Uge refl (at Ule refl (exchanged Uge Ule refl)), tt),
    ),
  ),
)
