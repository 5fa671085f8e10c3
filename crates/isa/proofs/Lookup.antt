-- Looking an opcode up in a table: what the code does with what it finds, and the opcode of what is found.
use Rattle.std.proofs.Common.{◌≡◌, ℕ, Bool, true, false, eqb, List, [], ◌∷◌, sym, refl, arith, eqb-true}
use Rattle.std.specs.Prelude as code
use mathlib.Core.Option.{none, some}
use Rattle.answer.specs.Answer.{refused, undefined}
use Rattle.isa.specs.Answer.{reading}
use Rattle.isa.specs.Found as Found
use Rattle.isa.specs.Table.{OpcodeRow, find}
use Rattle.isa.specs.Types.{Instruction, Unreadable, Undefined}

-- what is found, and what the code does where nothing is: it refuses with `Undefined`
pub op_of : {A : Type 0} (o : code.Option A) (op : A) → ◌≡◌ {A = code.Result A Unreadable} (code.Ok op) (code.ok_or o Undefined) → Found.found o ≡ some op
op_of (code.Some x) op e = cc
op_of code.None op e = cc

pub none_of : {A : Type 0} (o : code.Option A) (x : Unreadable) → ◌≡◌ {A = code.Result A Unreadable} (code.Err x) (code.ok_or o Undefined) →
    (Found.found o ≡ none) × ((r : code.Result Instruction Unreadable) → code.IsErr r × code.IsErrAnd r (λ y. y ≡ x) → reading r ≡ refused undefined)
none_of (code.Some y) x e = cc
none_of code.None x e = (refl, refuses)
  where
    refuses : (r : code.Result Instruction Unreadable) → code.IsErr r × code.IsErrAnd r (λ y. y ≡ x) → reading r ≡ refused undefined
    refuses (code.Ok i) h = absurd h.1
    refuses (code.Err y) h = let z : y ≡ Undefined = cc in rw z

pub ruleset refused_or = (op_of, none_of)

-- the operation found has the opcode
pub found : {A : Type 0} (row_of : A → OpcodeRow) (ops : List A) (o : ℕ) (op : A) → find row_of ops o ≡ some op → (row_of op).opcode ≡ o
unfolding find
found row_of [] o op e = let z : ◌≡◌ {A = ℕ} 0 1 = cc in absurd (omega arith)
found row_of (x ∷ xs) o op e = by (eqb o (row_of x).opcode) refl e (found row_of xs o op)
  where
    by : (t : Bool) → eqb o (row_of x).opcode ≡ t → elim t [ true ↦ some x | false ↦ find row_of xs o ] ≡ some op →
        (find row_of xs o ≡ some op → (row_of op).opcode ≡ o) → (row_of op).opcode ≡ o
    by true h g later = let s : x ≡ op = cc in sym (eqb-true o (row_of op).opcode (rw s at h))
    by false h g later = later g
