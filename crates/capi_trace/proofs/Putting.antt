-- Numbers and rows put one behind the other.
use Prim.Native.Nat.{ℕ, zero, suc, ◌+◌, ◌*◌, ◌<◌, ◌≤◌}
use mathlib.Core.List.{List, [], ◌∷◌, ◌++◌, append-nil, append_assoc}
use mathlib.Core.Path.{◌≡◌, refl, sym, ap, ◌∙◌}
use native.Mathlib.Omega.{arith}
use native.Mathlib.Nat.{le_of_suc-le-suc}
use lib.ListN.{length, set, take, get_or, length-append}
use lib.Seq.{take-suc}
use Rattle.trace.proofs.Lists.{onto-set}
use Rattle.trace.specs.Rows.{onto}
use Rattle.trace.specs.declared.row.Row.{Row}
use Rattle.capi_trace.specs.Numbers.{numbers_of, all_numbers, put_all, put_row, put_rows}

-- one more
pub all_more : (l : List ℕ) (at : ℕ) (xs : List ℕ) (x : ℕ) → put_all l at (xs ++ x ∷ []) ≡ set (put_all l at xs) (at + length xs) x
unfolding put_all
all_more l at [] x = ap (λ k. set l k x) (let e : at ≡ at + 0 = omega arith in e)
all_more l at (y ∷ xs) x =
    all_more (set l at y) (at + 1) xs x
    ∙ ap (λ k. set (put_all (set l at y) (at + 1) xs) k x) (let e : at + 1 + length xs ≡ at + suc (length xs) = omega arith in e)

pub rows_more : (l : List ℕ) (at : ℕ) (rs : List Row) (r : Row) → put_rows l at (rs ++ r ∷ []) ≡ put_row (put_rows l at rs) (at + length rs) r
unfolding put_rows
rows_more l at [] r = ap (λ k. put_row l k r) (let e : at ≡ at + 0 = omega arith in e)
rows_more l at (y ∷ rs) r =
    rows_more (put_row l at y) (at + 1) rs r
    ∙ ap (λ k. put_row (put_rows (put_row l at y) (at + 1) rs) k r) (let e : at + 1 + length rs ≡ at + suc (length rs) = omega arith in e)

-- Behind what was put from the front.

all-onto : (new old xs : List ℕ) → length new + length xs ≤ length old → put_all (onto new old) (length new) xs ≡ onto (new ++ xs) old
unfolding put_all
all-onto new old [] l = ap (λ k. onto k old) (sym (append-nil new))
all-onto new old (x ∷ xs) l =
    ap (λ k. put_all k (length new + 1) xs) (onto-set new old x (omega arith))
    ∙ ap (λ k. put_all (onto (new ++ x ∷ []) old) k xs) (sym (length-append new (x ∷ [])))
    ∙ all-onto (new ++ x ∷ []) old xs (omega (arith, length-append new (x ∷ [])))
    ∙ ap (λ k. onto k old) (append_assoc new (x ∷ []) xs)

pub seven : (r : Row) → length (numbers_of r) ≡ 7
unfolding numbers_of
seven r = refl

pub numbers-length : (rs : List Row) → length (all_numbers rs) ≡ 7 * length rs
unfolding all_numbers
numbers-length [] = refl
numbers-length (r ∷ rs) = omega (arith, length-append (numbers_of r) (all_numbers rs), seven r, numbers-length rs)

numbers-append : (a b : List Row) → all_numbers (a ++ b) ≡ all_numbers a ++ all_numbers b
unfolding all_numbers
numbers-append [] b = refl
numbers-append (r ∷ a) b = ap (λ l. numbers_of r ++ l) (numbers-append a b) ∙ sym (append_assoc (numbers_of r) (all_numbers a) (all_numbers b))

one-row : (r : Row) → all_numbers (r ∷ []) ≡ numbers_of r
unfolding all_numbers
one-row r = append-nil (numbers_of r)

pub rows-onto : (new rs : List Row) (old : List ℕ) → 7 * (length new + length rs) ≤ length old
    → put_rows (onto (all_numbers new) old) (length new) rs ≡ onto (all_numbers (new ++ rs)) old
unfolding put_rows put_row
rows-onto new [] old l = ap (λ k. onto (all_numbers k) old) (sym (append-nil new))
rows-onto new (r ∷ rs) old l =
    ap (λ k. put_rows (put_all (onto (all_numbers new) old) k (numbers_of r)) (length new + 1) rs) (sym (numbers-length new))
    ∙ ap (λ k. put_rows k (length new + 1) rs)
    (all-onto (all_numbers new) old (numbers_of r) (omega (arith, numbers-length new, seven r)))
    ∙ ap (λ k. put_rows (onto (all_numbers new ++ k) old) (length new + 1) rs) (sym (one-row r))
    ∙ ap (λ k. put_rows (onto k old) (length new + 1) rs) (sym (numbers-append new (r ∷ [])))
    ∙ ap (λ k. put_rows (onto (all_numbers (new ++ r ∷ [])) old) k rs) (sym (length-append new (r ∷ [])))
    ∙ rows-onto (new ++ r ∷ []) rs old (omega (arith, length-append new (r ∷ [])))
    ∙ ap (λ k. onto (all_numbers k) old) (append_assoc new (r ∷ []) rs)

length-of : {C : Type 0} (l : List C) (i : ℕ) → i < length l → length (take i l) ≡ i
length-of [] i h = absurd (omega arith)
length-of (c ∷ l) zero h = refl
length-of (c ∷ l) (suc i) h = ap suc (length-of l i (le_of_suc-le-suc h))

-- a turn of a loop over numbers
pub put-more : (l : List ℕ) (at : ℕ) (xs : List ℕ) (i : ℕ) (so_far : List ℕ) → so_far ≡ put_all l at (take i xs) → i < length xs
    → set so_far (at + i) (get_or xs i 0) ≡ put_all l at (take (suc i) xs)
put-more l at xs i so_far e h =
    ap (λ k. set k (at + i) (get_or xs i 0)) e
    ∙ ap (λ k. set (put_all l at (take i xs)) (at + k) (get_or xs i 0)) (sym (length-of xs i h))
    ∙ sym (all_more l at (take i xs) (get_or xs i 0))
    ∙ ap (put_all l at) (sym (take-suc xs i 0 h))

-- and over rows
pub put-row-more : (l : List ℕ) (at : ℕ) (rs : List Row) (i : ℕ) (d : Row) (so_far : List ℕ) → so_far ≡ put_rows l at (take i rs)
    → i < length rs
    → put_row so_far (at + i) (get_or rs i d) ≡ put_rows l at (take (suc i) rs)
put-row-more l at rs i d so_far e h =
    ap (λ k. put_row k (at + i) (get_or rs i d)) e
    ∙ ap (λ k. put_row (put_rows l at (take i rs)) (at + k) (get_or rs i d)) (sym (length-of rs i h))
    ∙ sym (rows_more l at (take i rs) (get_or rs i d))
    ∙ ap (put_rows l at) (sym (take-suc rs i d h))
