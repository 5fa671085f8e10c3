-- A walk over the rows of names finds what the tables' instructions say of a word.
use Prim.Native.Nat.{ℕ, suc, ◌+◌, ◌<◌, ◌≤◌}
use mathlib.Core.Bool.{Bool, true, false, cond, ◌&&◌}
use mathlib.Core.List.{List, [], ◌∷◌, ◌++◌}
use mathlib.Core.Option.{Option, none, some}
use mathlib.Core.Path.{◌≡◌, refl, ap, sym, ◌∙◌}
use native.Mathlib.Numerals.{add-one}
use native.Mathlib.Omega.{arith}
use lib.Dec.{eqb}
use lib.ListN.{length, get_or, drop, take, drop_of_length-le}
use lib.Seq.{drop-cons, take-suc, take_all}
use borrow.Author.Tests.{eq-eqb, ne_eqb, eqb-true, eqb-false}
use Rattle.isa.specs.Table.{find}
use Rattle.isa.specs.Text.{bytes, bytes_from}
use Rattle.names.proofs.Names.{room_at}
use Rattle.names.specs.Rows.{rows, no_row, row_at}
use Rattle.names.specs.declared.name.NameRow.{NameRow}
use Rattle.expression.specs.Label.{same}
use Rattle.statement.specs.Types.{Instruction}
use Rattle.statement.specs.Rows.{tried, tried_as, row_template, row_name, in_rows}
use Rattle.statement.specs.Mnemonic.{with_immediate, nameable, named_in, named}

all-of-them : (w : List ℕ) → in_rows false rows w (in_rows true rows w none) ≡ named w
unfolding in_rows rows bytes bytes_from find with_immediate nameable named_in
all-of-them w = refl

-- what is found in rows does not go by what there is otherwise
found-by : (o : Option Instruction) (n w : List ℕ) (x y : Option Instruction) (i : Instruction) → (some i ≡ x → some i ≡ y) → some i ≡ tried_as o n w x → some i ≡ tried_as o n w y
found-by none n w x y i f h = f h
found-by (some j) n w x y i f h = this (same n w) h
  where
    this : (b : Bool) → some i ≡ cond b (some j) x → some i ≡ cond b (some j) y
    this true h = h
    this false h = f h

-- and nothing found leaves what there is otherwise
none-by : (o : Option Instruction) (n w : List ℕ) (x y : Option Instruction) → (none ≡ x → y ≡ y) → none ≡ tried_as o n w x → none ≡ x
none-by none n w x y f h = h
none-by (some j) n w x y f h = this (same n w) h
  where
    this : (b : Bool) → none ≡ cond b (some j) x → none ≡ x
    this true h = absurd (let z : ◌≡◌ {A = ℕ} 0 1 = cc in omega arith)
    this false h = h

else-by : (o : Option Instruction) (n w : List ℕ) (x y : Option Instruction) → none ≡ tried_as o n w x → tried_as o n w y ≡ y
else-by none n w x y h = refl
else-by (some j) n w x y h = this (same n w) h
  where
    this : (b : Bool) → none ≡ cond b (some j) x → cond b (some j) y ≡ y
    this true h = absurd (let z : ◌≡◌ {A = ℕ} 0 1 = cc in omega arith)
    this false h = refl

rows-found : (m : Bool) (rs : List NameRow) (w : List ℕ) (x : Option Instruction) (i : Instruction) → some i ≡ in_rows m rs w none → some i ≡ in_rows m rs w x
unfolding in_rows
rows-found m [] w x i h = absurd (let z : ◌≡◌ {A = ℕ} 0 1 = cc in omega arith)
rows-found m (r ∷ rs) w x i h = found-by (row_template m r) (row_name m r) w (in_rows m rs w none) (in_rows m rs w x) i (rows-found m rs w x i) h

rows-else : (m : Bool) (rs : List NameRow) (w : List ℕ) (x : Option Instruction) → none ≡ in_rows m rs w none → in_rows m rs w x ≡ x
unfolding in_rows
rows-else m [] w x h = refl
rows-else m (r ∷ rs) w x h =
    else-by (row_template m r) (row_name m r) w (in_rows m rs w none) (in_rows m rs w x) h
    ∙ rows-else m rs w x (none-by (row_template m r) (row_name m r) w (in_rows m rs w none) none (λ e. refl) h)

-- a name of a row of its own, and one of I
pub listed : (w : List ℕ) (i : Instruction) → some i ≡ in_rows false rows w none → some i ≡ named w
listed w i h = rows-found false rows w (in_rows true rows w none) i h ∙ all-of-them w

pub immediates : (w : List ℕ) → none ≡ in_rows false rows w none → in_rows true rows w none ≡ named w
immediates w h = sym (rows-else false rows w (in_rows true rows w none) h) ∙ all-of-them w

-- one row tried: with its name and without
yes-by : (o : Option Instruction) (n w : List ℕ) → same n w ≡ true → o ≡ tried_as o n w none
yes-by none n w h = refl
yes-by (some i) n w h = rw h

no-by : (o : Option Instruction) (n w : List ℕ) → same n w ≡ false → none ≡ tried_as o n w none
no-by none n w h = refl
no-by (some i) n w h = rw h

module _ (m : Bool) (r s : NameRow) (w : List ℕ) (b : Bool) (e : r ≡ s) (f : b ≡ same (row_name m r) w) where
  pub has-name : b ≡ true → row_template m r ≡ tried m s w none
  has-name g = rw (← e) (yes-by (row_template m r) (row_name m r) w (sym f ∙ g))

  pub has-not : b ≡ false → none ≡ tried m s w none
  has-not g = rw (← e) (no-by (row_template m r) (row_name m r) w (sym f ∙ g))

-- a walk over the rows
pub row_count : length rows ≡ 61
unfolding rows
row_count = refl

-- a row that was read from the table, and its room
module _ (l : List NameRow) (k : ℕ) (r : NameRow) (e : l ≡ rows) (q : r ≡ get_or l k no_row) where
  pub row_is : r ≡ row_at k
  row_is = q ∙ ap (λ (x : List NameRow). get_or x k no_row) e

  pub row_room : r.2 ≤ 16
  row_room = rw row_is (room_at k)

module _ (m : Bool) (w : List ℕ) (k : ℕ) where
  pub walk-found : (i : Instruction) → k < length rows → some i ≡ tried m (row_at k) w none → some i ≡ in_rows m (drop k rows) w none
  unfolding in_rows
  walk-found i h e =
      rw (drop-cons rows k no_row h)
      (found-by (row_template m (row_at k)) (row_name m (row_at k)) w none (in_rows m (drop (suc k) rows) w none) i (λ f. absurd (let z : ◌≡◌ {A = ℕ} 0 1 = cc in omega arith)) e)

  pub walk-on : k < length rows → none ≡ tried m (row_at k) w none → in_rows m (drop (k + 1) rows) w none ≡ in_rows m (drop k rows) w none
  unfolding in_rows
  walk-on h e =
      rw (drop-cons rows k no_row h, add-one k)
      (sym (else-by (row_template m (row_at k)) (row_name m (row_at k)) w none (in_rows m (drop (suc k) rows) w none) e))

  pub walk_ends : length rows ≤ k → none ≡ in_rows m (drop k rows) w none
  unfolding in_rows
  walk_ends h = rw (drop_of_length-le rows {i = k} h)

-- a name with a letter more: the word's last byte is the letter, and the name stands before it
eqb-by : (c d : ℕ) (b : Bool) → eqb c d ≡ b → eqb c d ≡ eqb d c
eqb-by c d true e = e ∙ sym (eq-eqb d c (sym (eqb-true c d e)))
eqb-by c d false e = e ∙ sym (ne_eqb d c (λ q. eqb-false c d e (sym q)))

and-false : (b : Bool) → (b && false) ≡ false
and-false true = refl
and-false false = refl

swapped : (a b x : Bool) → (a && (b && x)) ≡ (b && (a && x))
swapped true true x = refl
swapped true false x = refl
swapped false true x = refl
swapped false false x = refl

no_more : (v : List ℕ) (d : ℕ) → same [] (v ++ d ∷ []) ≡ false
unfolding same
no_more [] d = refl
no_more (e ∷ v) d = refl

no_less : (n : List ℕ) (c : ℕ) → same (n ++ c ∷ []) [] ≡ false
unfolding same
no_less [] c = refl
no_less (m ∷ n) c = refl

both-longer : (n v : List ℕ) (c d : ℕ) → (eqb d c && same n v) ≡ same (n ++ c ∷ []) (v ++ d ∷ [])
unfolding same
both-longer [] [] c d = rw (eqb-by c d (eqb c d) refl)
both-longer [] (e ∷ v) c d = and-false (eqb d c) ∙ sym (and-false (eqb c e)) ∙ ap (λ x. eqb c e && x) (sym (no_more v d))
both-longer (m ∷ n) [] c d = and-false (eqb d c) ∙ sym (and-false (eqb m d)) ∙ ap (λ x. eqb m d && x) (sym (no_less n c))
both-longer (m ∷ n) (e ∷ v) c d = swapped (eqb d c) (eqb m e) (same n v) ∙ ap (λ x. eqb m e && x) (both-longer n v c d)

pub longer : (n w : List ℕ) (c last : ℕ) → last + 1 ≡ length w → (eqb (get_or w last 0) c && same n (take last w)) ≡ same (n ++ c ∷ []) w
longer n w c last h =
    let q : take last w ++ get_or w last 0 ∷ [] ≡ w = sym (take-suc w last 0 (omega arith)) ∙ take_all (suc last) w (omega arith) in
    both-longer n (take last w) c (get_or w last 0) ∙ ap (λ x. same (n ++ c ∷ []) x) q

pub empty-longer : (n w : List ℕ) (c : ℕ) → length w ≡ 0 → false ≡ same (n ++ c ∷ []) w
empty-longer n [] c h = sym (no_less n c)
empty-longer n (d ∷ w) c h = absurd (omega arith)
