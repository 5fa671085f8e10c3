-- `immediate_of` meets its contract: by the opcode of movei, and by any other.
use Prim.Native.Nat.{ℕ}
use mathlib.Core.Bool.{Bool, true, false, false≢true}
use mathlib.Core.Option.{none, some}
use mathlib.Core.Path.{◌≡◌, refl, sym, ◌∙◌}
use borrow.Author.Tests.{ne_eqb}
use lib.Dec.{eqb}
use Rattle.isa.specs.Table.{find, operation_at, table_movei}
use Rattle.fields.specs.Numbers.{movei_number}
use Rattle.isa.specs.declared.instruction.MoveiOp.TheVariants.{Low, High, Whole}
use Rattle.fields.proofs.layout.immediate_of.Goals as goal

-- an opcode that is not movei's has the field as it is
as-it-is : (o n : ℕ) → (o ≡ 2 → ⊥) → movei_number (operation_at table_movei o) n ≡ n
unfolding find
as-it-is o n h = by (eqb o 0) (eqb o 1) (eqb o 2) (ne_eqb o 2 h)
  where
    by : (low high whole : Bool) → whole ≡ false →
        movei_number (elim low [ true ↦ some Low | false ↦ elim high [ true ↦ some High | false ↦ elim whole [ true ↦ some Whole | false ↦ none ] ] ]) n ≡ n
    by true high whole e = refl
    by false true whole e = refl
    by false false true e = absurd (false≢true (sym e))
    by false false false e = refl

pub returns-then-w-eq2 : goal.returns-then-w-eq2
unfolding find
returns-then-w-eq2 c = rw c.if-w-eq2.true c.movei_number.ensures

pub returns : goal.returns
unfolding find
returns c = c.movei_number-2.ensures ∙ sym (as-it-is _ _ c.if-w-eq2.false)
