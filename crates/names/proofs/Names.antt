-- Names: an operation's name stands in the table's row of its opcode, and no instruction that has a word has a name of more than eight bytes.
use Prim.Native.Nat.{ℕ, zero, suc, ◌+◌, ◌-◌, ◌^◌, ◌<◌, ◌≤◌}
use mathlib.Core.Bool.{Bool, true, false, cond, not, ◌&&◌, ◌||◌, false≢true}
use mathlib.Core.List.{List, [], ◌∷◌, ◌++◌, append_assoc}
use mathlib.Core.Option.{some}
use mathlib.Core.Path.{◌≡◌, refl, ap, subst, ◌∙◌}
use native.Mathlib.Omega.{arith}
use borrow.Author.Tests.{eq-eqb, ltb-true, leb-true}
use lib.Dec.{eqb, leb, ltb}
use lib.ListN.{length, replicate, set, get_or, drop, length-append}
use lib.Seq.{set-append_seam, drop-cons}
use Rattle.answer.specs.Answer.{given}
use Rattle.isa.proofs.Both.{and_left, and_right, each}
use Rattle.isa.specs.Rule.{flags_class}
use Rattle.isa.specs.Test.{is_in}
use Rattle.isa.specs.Write.{written, write, write_i}
use Rattle.isa.proofs.Tables.{Finds, finds-R, finds-Movei, finds-J, finds-C, finds-M}
use Rattle.isa.specs.Table.{OpcodeRow, Table, find, table_r, table_movei, table_j, table_c, table_m, row_r, row_movei, row_j, row_c, row_m}
use Rattle.isa.specs.Text.{bytes}
use Rattle.isa.specs.declared.instruction.Instruction.{Instruction}
use Rattle.isa.specs.declared.instruction.Instruction.TheVariants.{R, I, Movei, J, C, M}
use Rattle.isa.specs.declared.instruction.Operation.{Operation}
use Rattle.isa.specs.declared.instruction.MoveiOp.{MoveiOp}
use Rattle.isa.specs.declared.instruction.JumpOp.{JumpOp}
use Rattle.isa.specs.declared.instruction.ControlOp.{ControlOp}
use Rattle.isa.specs.declared.instruction.MemoryOp.{MemoryOp}
use Rattle.names.specs.Name.{name_of, padded, spelled, extended}
use Rattle.names.specs.Rows.{rows_for, rows, no_row, row_at, named}
use Rattle.names.specs.declared.name.NameRow as names

-- rows of another format are passed over
skip : {A : Type 0} (g f o : ℕ) (t : Table A) (ops : List A) (rest : List names.NameRow) → eqb f g ≡ false →
    named (rows_for g t ops ++ rest) f o ≡ named rest f o
unfolding named
skip g f o t [] rest e = refl
skip g f o t (x ∷ xs) rest e = rw e (skip g f o t xs rest e)

-- the operation that an opcode finds has its name in the row found
hit : {A : Type 0} (f o : ℕ) (t : Table A) (ops : List A) (rest : List names.NameRow) (op : A) → find t.row_of ops o ≡ some op →
    named (rows_for f t ops ++ rest) f o ≡ spelled (t.row_of op).name
unfolding named find
hit f o t [] rest op e = let z : ◌≡◌ {A = ℕ} 0 1 = cc in absurd (omega arith)
hit {A} f o t (x ∷ xs) rest op e = by (eqb o (t.row_of x).opcode) refl e (hit f o t xs rest op)
  where
    by : (b : Bool) → eqb o (t.row_of x).opcode ≡ b → elim b [ true ↦ some x | false ↦ find t.row_of xs o ] ≡ some op →
        (find t.row_of xs o ≡ some op → named (rows_for f t xs ++ rest) f o ≡ spelled (t.row_of op).name) →
        named (rows_for f t (x ∷ xs) ++ rest) f o ≡ spelled (t.row_of op).name
    by true h g later = let s : x ≡ op = cc in rw (eq-eqb f f refl, h) (ap (λ (y : A). spelled (t.row_of y).name) s)
    by false h g later = rw (eq-eqb f f refl, h) (later g)

-- the row at a place: its name, where it is of the format and the opcode; else the rows behind it
module _ (rs : List names.NameRow) (f o k : ℕ) (h : k < length rs) where
  abbrev row : names.NameRow
  row = get_or rs k (0, 0, 0, [])

  pub here : (eqb f row.0 && eqb o row.1) ≡ true → named (drop k rs) f o ≡ record { bytes = row.3; len = row.2 }
  unfolding named
  here e = rw (drop-cons rs k (0, 0, 0, []) h, e)

  pub behind : (eqb f row.0 && eqb o row.1) ≡ false → named (drop k rs) f o ≡ named (drop (suc k) rs) f o
  unfolding named
  behind e = rw (drop-cons rs k (0, 0, 0, []) h, e)

-- so each operation has its name in the row of its opcode
pub of-R : (op : Operation) → named rows 0 (row_r op).opcode ≡ spelled (row_r op).name
unfolding rows
of-R op = hit 0 (row_r op).opcode table_r table_r.operations _ op (finds-R op)

pub of-Movei : (op : MoveiOp) → named rows 2 (row_movei op).opcode ≡ spelled (row_movei op).name
unfolding rows
of-Movei op =
    skip 0 2 _ table_r table_r.operations _ refl
    ∙ hit 2 (row_movei op).opcode table_movei table_movei.operations _ op (finds-Movei op)

pub of-J : (op : JumpOp) → named rows 3 (row_j op).opcode ≡ spelled (row_j op).name
unfolding rows
of-J op =
    skip 0 3 _ table_r table_r.operations _ refl
    ∙ skip 2 3 _ table_movei table_movei.operations _ refl
    ∙ hit 3 (row_j op).opcode table_j table_j.operations _ op (finds-J op)

pub of-C : (op : ControlOp) → named rows 4 (row_c op).opcode ≡ spelled (row_c op).name
unfolding rows
of-C op =
    skip 0 4 _ table_r table_r.operations _ refl
    ∙ skip 2 4 _ table_movei table_movei.operations _ refl
    ∙ skip 3 4 _ table_j table_j.operations _ refl
    ∙ hit 4 (row_c op).opcode table_c table_c.operations _ op (finds-C op)

pub of-M : (op : MemoryOp) → named rows 5 (row_m op).opcode ≡ spelled (row_m op).name
unfolding rows
of-M op =
    skip 0 5 _ table_r table_r.operations _ refl
    ∙ skip 2 5 _ table_movei table_movei.operations _ refl
    ∙ skip 3 5 _ table_j table_j.operations _ refl
    ∙ skip 4 5 _ table_c table_c.operations _ refl
    ∙ hit 5 (row_m op).opcode table_m table_m.operations [] op (finds-M op)

pub ruleset named_rows = (of-R, of-Movei, of-J, of-C, of-M)

-- a test that every operation of a table passes holds of each that an opcode finds
every : {A : Type 0} → (A → Bool) → List A → Bool
every p [] = true
every p (op ∷ ops) = p op && every p ops

passes : {A : Type 0} (p : A → Bool) (row_of : A → OpcodeRow) (ops : List A) (o : ℕ) (op : A) → every p ops ≡ true → find row_of ops o ≡ some op → p op ≡ true
unfolding every find
passes p row_of [] o op t e = let z : ◌≡◌ {A = ℕ} 0 1 = cc in absurd (omega arith)
passes {A} p row_of (x ∷ xs) o op t e =
    by (eqb o (row_of x).opcode) e (and_left (p x) (every p xs) t) (passes p row_of xs o op (and_right (p x) (every p xs) t))
  where
    by : (b : Bool) → elim b [ true ↦ some x | false ↦ find row_of xs o ] ≡ some op → p x ≡ true → (find row_of xs o ≡ some op → p op ≡ true) → p op ≡ true
    by true g first later = let s : x ≡ op = cc in subst (λ (y : A). p y ≡ true) s first
    by false g first later = later g

module _ {A : Type 0} (t : Table A) (finds : Finds t) (n : ℕ) where
  below : (op : A) → every (λ op. ltb (length (t.row_of op).name) n) t.operations ≡ true → length (t.row_of op).name < n
  below op e = ltb-true _ _ (passes (λ op. ltb (length (t.row_of op).name) n) t.row_of t.operations _ op e (finds op))

-- no name is longer than eight bytes, but for a letter more of I
pub short : (op : Operation) → length (row_r op).name ≤ 8
unfolding every bytes
short op = let h = below table_r finds-R 9 op refl in omega arith

pub fits : (i : Instruction) → length (name_of i) ≤ 9
unfolding every bytes
fits (R op flags d a b) = let h = short op in omega arith
fits (I op flags d a immediate) = let h = short op in rw (length-append (row_r op).name (105 ∷ [])) (omega arith)
fits (Movei op flag d immediate) = let h = below table_movei finds-Movei 10 op refl in omega arith
fits (J op register offset) = let h = below table_j finds-J 10 op refl in omega arith
fits (C op first second) = let h = below table_c finds-C 10 op refl in omega arith
fits (M op register base offset) = let h = below table_m finds-M 10 op refl in omega arith

-- of an operation with a word of I the name has at most seven: no instruction that has a word has a longer name than eight bytes
spare : Operation → Bool
spare op = not (ltb (row_r op).opcode (2 ^ 5)) || ltb (length (row_r op).name) 8

shorter : (op : Operation) → ltb (row_r op).opcode (2 ^ 5) ≡ true → length (row_r op).name < 8
unfolding every bytes spare
shorter op e = ltb-true _ _ (go (ltb (row_r op).opcode (2 ^ 5)) e (passes spare row_r table_r.operations _ op refl (finds-R op)))
  where
    go : (t : Bool) → t ≡ true → (not t || ltb (length (row_r op).name) 8) ≡ true → ltb (length (row_r op).name) 8 ≡ true
    go true f g = g
    go false f g = absurd (false≢true f)

has-flags : (t : Bool) (xs : List ℕ) (f : ℕ) → is_in f (cond t xs []) ≡ true → t ≡ true
has-flags true xs f e = refl
has-flags false xs f e = absurd (false≢true e)

is-written : (t : Bool) (v w : ℕ) → written t v ≡ given w → t ≡ true
unfolding written
is-written true v w e = refl
is-written false v w e = let z : ◌≡◌ {A = ℕ} 0 1 = cc in absurd (omega arith)

pub fits_word : (i : Instruction) (w : ℕ) → write i ≡ given w → length (name_of i) ≤ 8
unfolding every bytes write write_i
fits_word (R op flags d a b) w e = short op
fits_word (I op flags d a immediate) w e =
    let tests = each (_ ∷ _) (is-written _ _ w e) in
    let o = has-flags (ltb (row_r op).opcode (2 ^ 5)) (flags_class op) flags (and_left _ _ (and_left _ _ tests.0)) in
    let h = shorter op o in
    rw (length-append (row_r op).name (105 ∷ [])) (omega arith)
fits_word (Movei op flag d immediate) w e = let h = below table_movei finds-Movei 9 op refl in omega arith
fits_word (J op register offset) w e = let h = below table_j finds-J 9 op refl in omega arith
fits_word (C op first second) w e = let h = below table_c finds-C 9 op refl in omega arith
fits_word (M op register base offset) w e = let h = below table_m finds-M 9 op refl in omega arith

-- every row's name has room in sixteen bytes, and so has that of no format
at_row : (p : names.NameRow → Bool) (rs : List names.NameRow) (k : ℕ) (d : names.NameRow) → every p rs ≡ true → p d ≡ true → p (get_or rs k d) ≡ true
unfolding every
at_row p [] k d t e = e
at_row p (r ∷ rs) zero d t e = and_left (p r) (every p rs) t
at_row p (r ∷ rs) (suc k) d t e = at_row p rs k d (and_right (p r) (every p rs) t) e

pub room_at : (k : ℕ) → (row_at k).2 ≤ 16
unfolding every rows bytes
room_at k = leb-true _ _ (at_row (λ r. leb r.2 16) rows k no_row refl refl)

-- a byte put right behind a padded text makes it longer
pub one_more : (n : ℕ) (t : List ℕ) (b : ℕ) → length t < n → set (padded n t) (length t) b ≡ padded n (t ++ b ∷ [])
one_more n t b h =
    let m : n - length t ≡ suc (n - (length t + 1)) = omega arith in
    rw (m, set-append_seam t 0 (replicate (n - (length t + 1)) 0) b, length-append t (b ∷ []), append_assoc t (b ∷ []) (replicate (n - (length t + 1)) 0))

pub name-one-more : (t : List ℕ) (b : ℕ) → length t < 16 → extended (spelled t) b ≡ spelled (t ++ b ∷ [])
name-one-more t b h = rw (one_more 16 t b h, length-append t (b ∷ []))
