-- Blanks and words at the places of a line.
use Prim.Native.Nat.{ℕ, zero, suc, ◌+◌, ◌-◌, ◌<◌, ◌≤◌}
use mathlib.Core.Bool.{Bool, true, false, ◌||◌, cond}
use borrow.Author.Tests.{eqb-true}
use lib.Dec.{eqb}
use mathlib.Core.List.{List, [], ◌∷◌}
use mathlib.Core.Path.{◌≡◌, refl, sym, ap, ◌∙◌}
use native.Mathlib.Nat.{zero-add, suc-add}
use native.Mathlib.Numerals.{add-one}
use native.Mathlib.Omega.{arith}
use lib.ListN.{length, take, drop, get_or, length-drop, drop_of_length-le}
use lib.Seq.{drop-cons, drop-drop, get_or-drop, slice}
use Rattle.std.specs.List.{prefix_len}
use Rattle.std.proofs.lemmas.List.Recursion.{same_from_clauses}
use Rattle.std.proofs.lemmas.List.Folds.{length-prefix_len}
use Rattle.token.specs.Byte.{is_blank, in_word}
use Rattle.token.specs.Token.{word, mark, leading_blanks, leading_word, tokens_in, tokens}

-- what the code counts: the bytes from the front that pass a test

count_by : (b : Bool) (n : ℕ) → cond b (1 + n) 0 ≡ cond b (suc n) 0
count_by true n = omega arith
count_by false n = refl

pub blanks_counted : (l : List ℕ) → length (take (prefix_len is_blank l) l) ≡ leading_blanks l
unfolding leading_blanks
blanks_counted l =
    length-prefix_len is_blank l
    ∙ same_from_clauses (prefix_len is_blank) leading_blanks (λ c n. cond (is_blank c) (suc n) 0) refl (λ c t. count_by (is_blank c) (prefix_len is_blank t)) (λ c t. refl) l

word_length_by : (c : ℕ) (t : List ℕ) (b : Bool) → length (cond b (c ∷ leading_word t) []) ≡ cond b (suc (length (leading_word t))) 0
word_length_by c t true = refl
word_length_by c t false = refl

pub run_counted : (l : List ℕ) → length (take (prefix_len in_word l) l) ≡ length (leading_word l)
unfolding leading_word
run_counted l =
    length-prefix_len in_word l
    ∙ same_from_clauses (prefix_len in_word) (λ t. length (leading_word t)) (λ c n. cond (in_word c) (suc n) 0) refl (λ c t. count_by (in_word c) (prefix_len in_word t)) (λ c t. word_length_by c t (in_word c)) l

-- at the end of a row

pub run_ends : (l : List ℕ) (i : ℕ) → length l ≤ i → i ≡ i + length (leading_word (drop i l))
unfolding leading_word
run_ends l i h = rw (drop_of_length-le l {i = i} h) (omega arith)

pub blank-ends : (l : List ℕ) (i : ℕ) → length l ≤ i → i ≡ i + leading_blanks (drop i l)
unfolding leading_blanks
blank-ends l i h = rw (drop_of_length-le l {i = i} h) (omega arith)

-- no byte is both a blank and in a word
no-both-by : (c : ℕ) (b : Bool) → eqb c 32 ≡ b → b || eqb c 9 ≡ true → in_word c ≡ true → ⊥
no-both-by c true e b w = let z : false ≡ true = rw (eqb-true c 32 e) at w in let y : ◌≡◌ {A = ℕ} 0 1 = cc in omega arith
no-both-by c false e b w = let z : false ≡ true = rw (eqb-true c 9 b) at w in let y : ◌≡◌ {A = ℕ} 0 1 = cc in omega arith

no_both : (c : ℕ) → is_blank c ≡ true → in_word c ≡ true → ⊥
no_both c b w = no-both-by c (eqb c 32) refl b w

nothing : (k : ℕ) → ◌≡◌ {A = List ℕ} [] (take k [])
nothing zero = refl
nothing (suc k) = refl

short-by : (c : ℕ) (t : List ℕ) (b : Bool) → in_word c ≡ b → length (leading_word t) ≤ length t → length (leading_word (c ∷ t)) ≤ length (c ∷ t)
unfolding leading_word
short-by c t true e h = rw e (omega arith)
short-by c t false e h = rw e (omega arith)

pub run_short : (t : List ℕ) → length (leading_word t) ≤ length t
unfolding leading_word
run_short [] = omega arith
run_short (c ∷ t) = short-by c t (in_word c) refl (run_short t)

blanks_short_by : (c : ℕ) (t : List ℕ) (b : Bool) → is_blank c ≡ b → leading_blanks t ≤ length t → leading_blanks (c ∷ t) ≤ length (c ∷ t)
unfolding leading_blanks
blanks_short_by c t true e h = rw e (omega arith)
blanks_short_by c t false e h = rw e (omega arith)

pub blanks_short : (t : List ℕ) → leading_blanks t ≤ length t
unfolding leading_blanks
blanks_short [] = omega arith
blanks_short (c ∷ t) = blanks_short_by c t (is_blank c) refl (blanks_short t)

-- blanks make no tokens

skip_by : (c : ℕ) (t : List ℕ) (b : Bool) → is_blank c ≡ b → tokens (drop (leading_blanks t) t) ≡ tokens t → tokens (drop (leading_blanks (c ∷ t)) (c ∷ t)) ≡ tokens (c ∷ t)
unfolding leading_blanks tokens_in
skip_by c t true e h = rw e h
skip_by c t false e h = let n : leading_blanks (c ∷ t) ≡ 0 = rw e in ap (λ i. tokens_in false (drop i (c ∷ t))) n

skip : (t : List ℕ) → tokens (drop (leading_blanks t) t) ≡ tokens t
unfolding leading_blanks tokens_in
skip [] = refl
skip (c ∷ t) = skip_by c t (is_blank c) refl (skip t)

pub skipped : (l : List ℕ) (at s : ℕ) → s ≡ at + leading_blanks (drop at l) → tokens (drop at l) ≡ tokens (drop s l)
skipped l at s e = sym (skip (drop at l)) ∙ ap tokens (drop-drop (leading_blanks (drop at l)) at l) ∙ ap (λ i. tokens (drop i l)) (sym e)

no-blank-by : (c : ℕ) (t : List ℕ) (b : Bool) → is_blank c ≡ b → (leading_blanks t < length t → is_blank (get_or t (leading_blanks t) 0) ≡ false) → leading_blanks (c ∷ t) < length (c ∷ t) → is_blank (get_or (c ∷ t) (leading_blanks (c ∷ t)) 0) ≡ false
unfolding leading_blanks
no-blank-by c t true e h = rw e (λ k. h (omega arith))
no-blank-by c t false e h = rw e (λ k. e)

no-blank : (t : List ℕ) → leading_blanks t < length t → is_blank (get_or t (leading_blanks t) 0) ≡ false
unfolding leading_blanks
no-blank [] h = absurd (omega arith)
no-blank (c ∷ t) h = no-blank-by c t (is_blank c) refl (no-blank t) h

-- behind the blanks stands none
pub behind-blanks : (l : List ℕ) (at s : ℕ) → s ≡ at + leading_blanks (drop at l) → s < length l → is_blank (get_or l s 0) ≡ false
behind-blanks l at s e h =
    let k : leading_blanks (drop at l) < length (drop at l) = rw (length-drop at l) (omega arith) in
    rw (e, ← get_or-drop at l (leading_blanks (drop at l)) 0) (no-blank (drop at l) k)

-- no tokens at the end
pub none_left : (l : List ℕ) (s : ℕ) → length l ≤ s → tokens (drop s l) ≡ []
unfolding tokens_in
none_left l s h = rw (drop_of_length-le l {i = s} h)

-- a mark
in-word-by : (c : ℕ) (t : List ℕ) (b : Bool) → in_word c ≡ b → length (leading_word (c ∷ t)) ≡ 0 → in_word c ≡ false
unfolding leading_word
in-word-by c t true e h = absurd (omega (arith, rw e at h))
in-word-by c t false e h = e

pub a-mark : (l : List ℕ) (s : ℕ) → s < length l → is_blank (get_or l s 0) ≡ false → length (leading_word (drop s l)) ≡ 0 → tokens (drop s l) ≡ mark (get_or l s 0) ∷ tokens (drop (s + 1) l)
unfolding tokens_in
a-mark l s h b e =
    let w = in-word-by (get_or l s 0) (drop (suc s) l) (in_word (get_or l s 0)) refl (ap (λ t. length (leading_word t)) (sym (drop-cons l s 0 h)) ∙ e) in
    rw (drop-cons l s 0 h, b, w, add-one s)

-- a word: what goes on is passed over
passed-by : (c : ℕ) (t : List ℕ) (b d : Bool) → is_blank c ≡ d → in_word c ≡ b → tokens_in true t ≡ tokens (drop (length (leading_word t)) t) → tokens_in true (c ∷ t) ≡ tokens (drop (length (leading_word (c ∷ t))) (c ∷ t))
unfolding tokens_in leading_word
passed-by c t true true d e h = absurd (no_both c d e)
passed-by c t true false d e h = rw (d, e) h
passed-by c t false true d e h =
    let n : length (leading_word (c ∷ t)) ≡ 0 = rw e in
    let same : tokens_in true (c ∷ t) ≡ tokens_in false (c ∷ t) = rw d in
    same ∙ sym (ap (λ i. tokens_in false (drop i (c ∷ t))) n)
passed-by c t false false d e h =
    let n : length (leading_word (c ∷ t)) ≡ 0 = rw e in
    let same : tokens_in true (c ∷ t) ≡ tokens_in false (c ∷ t) = rw (d, e) in
    same ∙ sym (ap (λ i. tokens_in false (drop i (c ∷ t))) n)

passed : (t : List ℕ) → tokens_in true t ≡ tokens (drop (length (leading_word t)) t)
unfolding tokens_in leading_word
passed [] = refl
passed (c ∷ t) = passed-by c t (in_word c) (is_blank c) refl refl (passed t)

run-first : (c : ℕ) (t : List ℕ) (b : Bool) → in_word c ≡ b → (length (leading_word (c ∷ t)) ≡ 0 → ⊥) → (in_word c ≡ true) × (length (leading_word (c ∷ t)) ≡ suc (length (leading_word t)))
unfolding leading_word
run-first c t true e h = (e, rw e)
run-first c t false e h = absurd (h (rw e))

-- the part of a line from s on
pub part : (s k : ℕ) (l : List ℕ) → slice s (s + k) l ≡ take k (drop s l)
part zero k l = rw (zero-add k)
part (suc s) k [] = rw (suc-add s k) (nothing k)
part (suc s) k (c ∷ l) = rw (suc-add s k) (part s k l)

pub part-is : (s e : ℕ) (l : List ℕ) → s ≤ e → take (e - s) (drop s l) ≡ slice s e l
part-is s e l h =
    let q : s + (e - s) ≡ e = omega arith in
    sym (part s (e - s) l) ∙ ap (λ i. slice s i l) q

take-run-by : (c : ℕ) (t : List ℕ) (b : Bool) → in_word c ≡ b → take (length (leading_word t)) t ≡ leading_word t → take (length (leading_word (c ∷ t))) (c ∷ t) ≡ leading_word (c ∷ t)
unfolding leading_word
take-run-by c t true e h = rw e (ap (λ r. c ∷ r) h)
take-run-by c t false e h = rw e

take-run : (t : List ℕ) → take (length (leading_word t)) t ≡ leading_word t
unfolding leading_word
take-run [] = refl
take-run (c ∷ t) = take-run-by c t (in_word c) refl (take-run t)

-- the run from a place on, as a part of the line
pub run-part : (l : List ℕ) (s e : ℕ) → e ≡ s + length (leading_word (drop s l)) → slice s e l ≡ leading_word (drop s l)
run-part l s e h = ap (λ i. slice s i l) h ∙ part s (length (leading_word (drop s l))) l ∙ take-run (drop s l)

word-by : (c : ℕ) (t : List ℕ) → is_blank c ≡ false → (length (leading_word (c ∷ t)) ≡ 0 → ⊥) → tokens (c ∷ t) ≡ word (leading_word (c ∷ t)) ∷ tokens (drop (length (leading_word (c ∷ t))) (c ∷ t))
unfolding tokens_in
word-by c t b h =
    let f = run-first c t (in_word c) refl h in
    rw (f.1, b, f.0) (ap (λ r. word (leading_word (c ∷ t)) ∷ r) (passed t))

pub a_word : (l : List ℕ) (s e : ℕ) → s < length l → is_blank (get_or l s 0) ≡ false → e ≡ s + length (leading_word (drop s l)) → (e ≡ s → ⊥) → tokens (drop s l) ≡ word (slice s e l) ∷ tokens (drop e l)
a_word l s e h b q ne =
    let d = drop-cons l s 0 h in
    let n : length (leading_word (get_or l s 0 ∷ drop (suc s) l)) ≡ 0 → ⊥ = λ z. ne (omega (arith, ap (λ t. length (leading_word t)) d)) in
    let w = word-by (get_or l s 0) (drop (suc s) l) b n in
    let m : drop (length (leading_word (drop s l))) (drop s l) ≡ drop e l = drop-drop (length (leading_word (drop s l))) s l ∙ ap (λ i. drop i l) (sym q) in
    ap tokens d ∙ w ∙ ap (λ t. word (leading_word t) ∷ tokens (drop (length (leading_word t)) t)) (sym d) ∙ ap (λ t. word (leading_word (drop s l)) ∷ tokens t) m ∙ ap (λ t. word t ∷ tokens (drop e l)) (sym (run-part l s e q))

-- a word lies in its line
pub run_fits : (l : List ℕ) (s : ℕ) → s ≤ length l → s + length (leading_word (drop s l)) ≤ length l
run_fits l s h = omega (arith, run_short (drop s l), length-drop s l)
