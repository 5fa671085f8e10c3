-- What is proved of the definitions.
use Rattle.std.specs.Prelude.{◌≡◌, ℕ, ◌^◌, ◌<◌, ◌≤◌, Bool, true, false, not, ◌⊎◌, ◌↔◌, List, [], ◌∷◌, ℤ, pos, negsuc, ◌<ℤ◌, ◌≢◌, int_le, int_lt, Float as Real, Some, None}
use Rattle.std.proofs.Math.Option.{some}
use Rattle.std.specs.Float.{nan, inf, fin}
use Rattle.isa.specs.declared.instruction.CompareOp.{CompareOp}
use Rattle.isa.specs.declared.instruction.CompareOp.TheVariants.{Eq, Ne, Gt, Ge, Lt, Le, Ugt, Uge, Ult, Ule}
use Rattle.isa.specs.Table.{operation_at, table_r}
use Rattle.isa.specs.declared.instruction.Operation.TheVariants.{Compare}
use Rattle.ordering.specs.declared.rows.CompareRow.{CompareRow}
use Rattle.ordering.specs.declared.rows.Kind.{Kind}
use Rattle.ordering.specs.declared.rows.Kind.TheVariants.{Unsigned, Signed, Float}
use Rattle.std.specs.declared.cmp.Ordering.TheVariants.{Less, Equal, Greater}
use Rattle.twos_complement.specs.Word.{value}
use Rattle.ordering.specs.Compare.{compare}
use Rattle.ordering.specs.Order.{ordering, order, row, float_row, answer}
use Rattle.float.specs.Floats.{value as float}
use Rattle.float.specs.Nearest.{Stands}

-- "signed 16 cmpgt, 17 cmpge, 18 cmplt, 19 cmple": the order of the signed numbers
pub record ComparesAreSigned (x y : ℕ) : Type 0 where
  pub gt : compare Gt x y ≡ int_lt (value 32 y) (value 32 x)
  pub ge : compare Ge x y ≡ int_le (value 32 y) (value 32 x)
  pub lt : compare Lt x y ≡ int_lt (value 32 x) (value 32 y)
  pub le : compare Le x y ≡ int_le (value 32 x) (value 32 y)

abbrev pub SignedOrder : Type 0
SignedOrder = (x y : ℕ) → x < 2 ^ 32 → y < 2 ^ 32 → ComparesAreSigned x y

-- "14 cmpeq, 15 cmpne, .. unsigned 20 cmpugt, 21 cmpuge, 22 cmpult, 23 cmpule": the numbers as they are
pub record ComparesAreUnsigned (x y : ℕ) : Type 0 where
  pub eq : (compare Eq x y ≡ true) ↔ (x ≡ y)
  pub ne : (compare Ne x y ≡ true) ↔ (x ≢ y)
  pub ugt : (compare Ugt x y ≡ true) ↔ (y < x)
  pub uge : (compare Uge x y ≡ true) ↔ (y ≤ x)
  pub ult : (compare Ult x y ≡ true) ↔ (x < y)
  pub ule : (compare Ule x y ≡ true) ↔ (x ≤ y)

abbrev pub UnsignedOrder : Type 0
UnsignedOrder = (x y : ℕ) → ComparesAreUnsigned x y

-- ---- the compares as one rule (document 02, T-07)

-- "one three-way ordering": each outcome is one order of the whole numbers
pub record ThreeWays (z w : ℤ) : Type 0 where
  pub below : (ordering z w ≡ Some Less) ↔ (z <ℤ w)
  pub equal : (ordering z w ≡ Some Equal) ↔ (z ≡ w)
  pub above : (ordering z w ≡ Some Greater) ↔ (w <ℤ z)

abbrev pub OrdersNumbers : Type 0
OrdersNumbers = (z w : ℤ) → ThreeWays z w

-- floats (T-08): finite ones are in the order of the numbers z / d and w / d that they stand for, in which -0 and +0 are one; that each stands for
-- one is `EveryFinite` of float
abbrev pub OrdersFinite : Type 0
OrdersFinite = (d x y : ℕ) (z w : ℤ) → 0 < d → Stands d x z → Stands d y w → order Float x y ≡ ordering z w

-- an infinity is beyond all finite floats, and equal to itself
abbrev pub side : Real → ℤ
side nan = pos 0
side (inf false) = pos 1
side (inf true) = negsuc 0
side (fin s m e) = pos 0

abbrev pub OrdersInfinite : Type 0
OrdersInfinite =
    (x y : ℕ) (s : Bool) → (float x ≡ inf s) ⊎ (float y ≡ inf s) → (float x ≢ nan) → (float y ≢ nan)
    → order Float x y ≡ ordering (side (float x)) (side (float y))

-- and a NaN alone is unordered
abbrev pub UnorderedExactly : Type 0
UnorderedExactly = (x y : ℕ) → (order Float x y ≡ None) ↔ ((float x ≡ nan) ⊎ (float y ≡ nan))

-- "for all operands that each answers yes exactly by its row"
abbrev pub ByRow : CompareRow → CompareOp → Type 0
ByRow r op = (x y : ℕ) → x < 2 ^ 32 → y < 2 ^ 32 → compare op x y ≡ answer r x y

-- "answer oppositely"
abbrev pub Opposite : CompareOp → CompareOp → Type 0
Opposite p q = (x y : ℕ) → x < 2 ^ 32 → y < 2 ^ 32 → compare q x y ≡ not (compare p x y)

-- "agree with operands exchanged"
abbrev pub Exchanged : CompareOp → CompareOp → Type 0
Exchanged p q = (x y : ℕ) → x < 2 ^ 32 → y < 2 ^ 32 → compare q y x ≡ compare p x y

-- R's opcode n is a compare's, and P holds of that compare
pub record At (n : ℕ) (P : CompareOp → Type 0) : Type 0 where
  pub op : CompareOp
  pub named : operation_at table_r n ≡ some (Compare op)
  pub holds : P op

-- an opcode, what its operands stand for, and whether below, equal and above count as yes
pub record TableRow : Type 0 where
  pub opcode : ℕ
  pub columns : CompareRow

abbrev pub table_row : ℕ → Kind → Bool → Bool → Bool → TableRow
table_row opcode kind below equal above = record { opcode = opcode; columns = row kind below equal above }

-- the same of floats, and whether unordered counts
abbrev pub float_table_row : ℕ → Bool → Bool → Bool → Bool → TableRow
float_table_row opcode below equal above unordered = record { opcode = opcode; columns = float_row below equal above unordered }

abbrev pub Each : List TableRow → Type 0
Each [] = Unit {0}
Each (r ∷ rs) = At r.opcode (ByRow r.columns) × Each rs

-- two opcodes
pub record Pair : Type 0 where
  pub first : ℕ
  pub second : ℕ

abbrev pub pair : ℕ → ℕ → Pair
pair first second = record { first = first; second = second }

abbrev pub EachPair : (CompareOp → CompareOp → Type 0) → List Pair → Type 0
EachPair R [] = Unit {0}
EachPair R (p ∷ ps) = At p.first (λ op. At p.second (λ other. R op other)) × EachPair R ps

-- "14 cmpeq, 15 cmpne, signed 16 cmpgt, 17 cmpge, 18 cmplt, 19 cmple, unsigned 20 cmpugt, 21 cmpuge, 22 cmpult, 23 cmpule"
unfoldable pub EachByRow : Type 0
EachByRow = Each (
    table_row 14 Unsigned false true false ∷
    table_row 15 Unsigned true false true ∷
    table_row 16 Signed false false true ∷
    table_row 17 Signed false true true ∷
    table_row 18 Signed true false false ∷
    table_row 19 Signed true true false ∷
    table_row 20 Unsigned false false true ∷
    table_row 21 Unsigned false true true ∷
    table_row 22 Unsigned true false false ∷
    table_row 23 Unsigned true true false ∷ [])

-- the float compares too (T-08): with `NoneWithNan` of float, the column of unordered is "With a NaN, ne is true and the others false."
unfoldable pub EachFloatByRow : Type 0
EachFloatByRow = Each (
    float_table_row 37 false true false false ∷
    float_table_row 38 true false true true ∷
    float_table_row 39 false false true false ∷
    float_table_row 40 false true true false ∷
    float_table_row 41 true false false false ∷
    float_table_row 42 true true false false ∷ [])

-- "14 and 15, 16 and 19, 17 and 18, 20 and 23, 21 and 22 answer oppositely"
unfoldable pub PairsOpposite : Type 0
PairsOpposite = EachPair Opposite (pair 14 15 ∷ pair 16 19 ∷ pair 17 18 ∷ pair 20 23 ∷ pair 21 22 ∷ [])

-- "16 and 18, 17 and 19, 20 and 22, 21 and 23 agree with operands exchanged"
unfoldable pub PairsExchanged : Type 0
PairsExchanged = EachPair Exchanged (pair 16 18 ∷ pair 17 19 ∷ pair 20 22 ∷ pair 21 23 ∷ [])
