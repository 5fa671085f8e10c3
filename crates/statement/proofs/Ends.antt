-- A text up to a byte: a line's end, or its comment.
use Prim.Native.Nat.{ℕ, zero, suc, ◌+◌, ◌≤◌}
use mathlib.Core.Bool.{Bool, true, false, cond, not}
use mathlib.Core.List.{List, [], ◌∷◌}
use mathlib.Core.Path.{◌≡◌, refl, ap, ◌∙◌}
use native.Mathlib.Omega.{arith}
use borrow.Author.Tests.{eqb-true}
use lib.Dec.{eqb}
use lib.ListN.{length, take, drop}
use Rattle.std.specs.List.{prefix_len}
use Rattle.std.proofs.lemmas.List.Recursion.{same_from_clauses}
use Rattle.std.proofs.lemmas.List.Folds.{length-prefix_len}
use Rattle.token.specs.Byte.{in_word}
use Rattle.token.specs.Token.{leading_word}
use Rattle.statement.specs.Line.{up_to}

count_by : (b : Bool) (n : ℕ) → cond (not b) (1 + n) 0 ≡ cond b 0 (suc n)
count_by true n = refl
count_by false n = omega arith

length_by : (d : ℕ) (ds : List ℕ) (b : Bool) → length (cond b [] (d ∷ ds)) ≡ cond b 0 (suc (length ds))
length_by d ds true = refl
length_by d ds false = refl

-- what the code counts: the bytes from the front that are not c
pub upto_counted : (c : ℕ) (l : List ℕ) → length (take (prefix_len (λ d. not (eqb d c)) l) l) ≡ length (up_to c l)
unfolding up_to
upto_counted c l =
    length-prefix_len (λ d. not (eqb d c)) l
    ∙ same_from_clauses (prefix_len (λ d. not (eqb d c))) (λ t. length (up_to c t)) (λ d n. cond (eqb d c) 0 (suc n)) refl (λ d t. count_by (eqb d c) (prefix_len (λ d. not (eqb d c)) t)) (λ d t. length_by d (up_to c t) (eqb d c)) l

take_by : (c d : ℕ) (ds : List ℕ) (b : Bool) → eqb d c ≡ b → take (length (up_to c ds)) ds ≡ up_to c ds → take (length (up_to c (d ∷ ds))) (d ∷ ds) ≡ up_to c (d ∷ ds)
unfolding up_to
take_by c d ds true e h = rw e
take_by c d ds false e h = rw e (ap (λ r. d ∷ r) h)

-- what stands before the byte is the text up to there
pub take-upto : (c : ℕ) (l : List ℕ) → take (length (up_to c l)) l ≡ up_to c l
unfolding up_to
take-upto c [] = refl
take-upto c (d ∷ ds) = take_by c d ds (eqb d c) refl (take-upto c ds)

short-by : (c d : ℕ) (ds : List ℕ) (b : Bool) → eqb d c ≡ b → length (up_to c ds) ≤ length ds → length (up_to c (d ∷ ds)) ≤ length (d ∷ ds)
unfolding up_to
short-by c d ds true e h = rw e (omega arith)
short-by c d ds false e h = rw e (omega arith)

pub upto-short : (c : ℕ) (l : List ℕ) → length (up_to c l) ≤ length l
unfolding up_to
upto-short c [] = omega arith
upto-short c (d ∷ ds) = short-by c d ds (eqb d c) refl (upto-short c ds)

run_by : (c d : ℕ) (ds : List ℕ) (b : Bool) → in_word c ≡ false → eqb d c ≡ b → leading_word (up_to c ds) ≡ leading_word ds → leading_word (up_to c (d ∷ ds)) ≡ leading_word (d ∷ ds)
unfolding up_to leading_word
run_by c d ds true n e h = let q : in_word d ≡ false = rw (eqb-true d c e) n in rw (e, q)
run_by c d ds false n e h = rw (e, h)

run-upto : (c : ℕ) (l : List ℕ) → in_word c ≡ false → leading_word (up_to c l) ≡ leading_word l
unfolding up_to
run-upto c [] n = refl
run-upto c (d ∷ ds) n = run_by c d ds (eqb d c) n refl (run-upto c ds n)

drop-by : (c d s : ℕ) (ds : List ℕ) (b : Bool) → eqb d c ≡ b → suc s ≤ length (up_to c (d ∷ ds)) → (s ≤ length (up_to c ds) → drop s (up_to c ds) ≡ up_to c (drop s ds)) → drop (suc s) (up_to c (d ∷ ds)) ≡ up_to c (drop (suc s) (d ∷ ds))
unfolding up_to
drop-by c d s ds true e = rw e (λ k h. absurd (omega arith))
drop-by c d s ds false e = rw e (λ k h. h (omega arith))

drop-upto : (c : ℕ) (l : List ℕ) (s : ℕ) → s ≤ length (up_to c l) → drop s (up_to c l) ≡ up_to c (drop s l)
unfolding up_to
drop-upto c l zero h = refl
drop-upto c [] (suc s) h = refl
drop-upto c (d ∷ ds) (suc s) h = drop-by c d s ds (eqb d c) refl h (drop-upto c ds s)

-- a word before the byte is the word there in the text
pub word-in-line : (c : ℕ) (l : List ℕ) (s : ℕ) → in_word c ≡ false → s ≤ length (up_to c l) → leading_word (drop s (up_to c l)) ≡ leading_word (drop s l)
word-in-line c l s n h = ap leading_word (drop-upto c l s h) ∙ run-upto c (drop s l) n
