-- The compares as one rule (document 02, T-07 and T-08): a three-way ordering, with a fourth outcome for floats, and a table of the outcomes that count as yes.
use Rattle.std.specs.Prelude.{ℕ, ◌+◌, ◌%◌, ◌^◌, Bool, true, false, cond, ℤ, pos, int_lt, Option, Some, None}
use Rattle.isa.specs.declared.instruction.CompareOp.{CompareOp}
use Rattle.isa.specs.declared.instruction.CompareOp.TheVariants.{Eq, Ne, Gt, Ge, Lt, Le, Ugt, Uge, Ult, Ule, Feq, Fne, Fgt, Fge, Flt, Fle}
use Rattle.float.specs.Floats.{feq_of, fgt_of, flt_of}
use Rattle.twos_complement.specs.Word.{value}
use Rattle.ordering.specs.declared.rows.Kind.{Kind}
use Rattle.ordering.specs.declared.rows.Kind.TheVariants.{Unsigned, Signed, Float}
use Rattle.std.specs.declared.cmp.Ordering.{Ordering}
use Rattle.std.specs.declared.cmp.Ordering.TheVariants.{Less, Equal, Greater}
use Rattle.ordering.specs.declared.rows.CompareRow.{CompareRow}

-- how one whole number stands to another
abbrev pub ordering : ℤ → ℤ → Option Ordering
ordering z w = cond (int_lt z w) (Some Less) (cond (int_lt w z) (Some Greater) (Some Equal))

-- how one float stands to another, by whether it is less, equal or greater: a NaN is none of them
abbrev pub outcome : Bool → Bool → Bool → Option Ordering
outcome less same greater = cond less (Some Less) (cond same (Some Equal) (cond greater (Some Greater) None))

-- "one three-way ordering, signed or unsigned"; floats have a fourth outcome
abbrev pub order : Kind → ℕ → ℕ → Option Ordering
order Unsigned x y = ordering (pos x) (pos y)
order Signed x y = ordering (value 32 x) (value 32 y)
order Float x y = outcome (flt_of x y) (feq_of x y) (fgt_of x y)

-- what is added to words of a kind, with wrapping, so that their order is the unsigned one; floats have none
abbrev pub bias_of : Kind → ℕ
bias_of Unsigned = 0
bias_of Signed = 2 ^ 31
bias_of Float = 0

-- the order of two words with a bias added
abbrev pub order_biased : ℕ → ℕ → ℕ → Option Ordering
order_biased bias x y = order Unsigned ((x + bias) % 2 ^ 32) ((y + bias) % 2 ^ 32)

-- a row for whole numbers, which are never unordered, and one for floats
abbrev pub row : Kind → Bool → Bool → Bool → CompareRow
row kind below equal above = record { kind = kind; below = below; equal = equal; above = above; unordered = false }

abbrev pub float_row : Bool → Bool → Bool → Bool → CompareRow
float_row below equal above unordered = record { kind = Float; below = below; equal = equal; above = above; unordered = unordered }

-- "a table of the outcomes that count as yes": what a compare's operands stand for, and whether below, equal and above
-- count; for floats also unordered. Behind it is its opcode. 02 (T-08): "With a NaN, ne is true and the others false."
abbrev pub row_of : CompareOp → CompareRow
row_of Eq = row Unsigned false true false  -- 14
row_of Ne = row Unsigned true false true  -- 15
row_of Gt = row Signed false false true  -- 16
row_of Ge = row Signed false true true  -- 17
row_of Lt = row Signed true false false  -- 18
row_of Le = row Signed true true false  -- 19
row_of Ugt = row Unsigned false false true  -- 20
row_of Uge = row Unsigned false true true  -- 21
row_of Ult = row Unsigned true false false  -- 22
row_of Ule = row Unsigned true true false  -- 23
row_of Feq = float_row false true false false  -- 37
row_of Fne = float_row true false true true  -- 38
row_of Fgt = float_row false false true false  -- 39
row_of Fge = float_row false true true false  -- 40
row_of Flt = float_row true false false false  -- 41
row_of Fle = float_row true true false false  -- 42

-- of four, the one that an outcome picks
abbrev pub pick : {A : Type 0} → Option Ordering → A → A → A → A → A
pick (Some Less) below equal above unordered = below
pick (Some Equal) below equal above unordered = equal
pick (Some Greater) below equal above unordered = above
pick None below equal above unordered = unordered

-- whether a row counts an outcome as yes
abbrev pub counts : CompareRow → Option Ordering → Bool
counts r outcome = pick outcome r.below r.equal r.above r.unordered

-- what a row answers of two words
abbrev pub answer : CompareRow → ℕ → ℕ → Bool
answer r x y = counts r (order r.kind x y)
