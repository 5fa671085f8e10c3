-- Which words are not fitted: those that the two lines of the paper say, and no others.
use Rattle.std.proofs.Common.{◌≡◌, ℕ, zero, suc, ◌+◌, ◌*◌, ◌<◌, Bool, true, false, cond, not, ◌&&◌, ◌||◌, eqb, sym, refl, ap, ◌∙◌, arith, below_more, eqb-true}
use mathlib.Core.Bool.{beq, or-false}
use mathlib.Core.Option.{Option, none, some}
use Rattle.isa.proofs.Both.{and_left, and_right}
use Rattle.isa.proofs.Cases.{by-test, by-guarded, by-listed}
use Rattle.isa.proofs.Formats.{is-R, is-M}
use Rattle.answer.specs.Answer.{Answer, given, refused}
use Rattle.isa.specs.Claims.{named_m, not_fitted_r, not_fitted_m, not_fitted, NotFittedExactly, RowsHold}
use Rattle.word_layout.specs.Layout.{bits, signed}
use Rattle.isa.specs.Read.{reads, read, read_r, read_i, read_movei, read_j, read_c, read_m, as_r, as_i, as_movei, as_j, as_c, as_m, guarded, listed}
use Rattle.isa.specs.Table.{find, operation_at, table_r, table_m, not-fitted-opcodes}
use Rattle.isa.specs.Test.{all, is_in}
use Rattle.isa.specs.Types.{Instruction}

-- whether an answer is the number 8
is_eight : Answer Instruction → Bool
is_eight (given i) = false
is_eight (refused number) = eqb number 8

eight : (a : Answer Instruction) → is_eight a ≡ true → a ≡ refused 8
unfolding is_eight
eight (given i) e = let z : ◌≡◌ {A = ℕ} 0 1 = cc in absurd (omega arith)
eight (refused number) e = ap refused (eqb-true number 8 e)

-- an answer that is not
Other : Answer Instruction → Type 0
Other a = is_eight a ≡ false

undefined-other : Other (refused 7)
unfolding Other is_eight
undefined-other = refl

guarded-other : (t : Bool) (i : Instruction) → Other (guarded t i)
unfolding Other is_eight
guarded-other t i = by-guarded (λ a. is_eight a ≡ false) t refl refl

-- I, MOVEI, J and C have no such words
read-other : (w : ℕ) → Other (read_i w) × Other (read_movei w) × Other (read_j w) × Other (read_c w)
unfolding read_i read_movei read_j read_c as_i as_movei as_j as_c
read-other w = (
  by-listed Other _ (λ op. guarded-other _ _) undefined-other,
  by-listed Other _ (λ op. guarded-other _ _) undefined-other,
  by-listed Other _ (λ op. guarded-other _ _) undefined-other,
  by-listed Other _ (λ op. guarded-other _ _) undefined-other,
)

-- R and M: by the opcode, and by the bits that the line names

is_listed : {A : Type 0} → Option A → Bool
is_listed none = false
is_listed (some op) = true

by-opcode : {A : Type 0} (o : Option A) (f : A → Answer Instruction) (n : ℕ) (t : Bool) → ((op : A) → is_eight (f op) ≡ t) →
    is_eight (listed o f n) ≡ cond (is_listed o) t (eqb n 8)
unfolding is_eight is_listed listed
by-opcode none f n t h = refl
by-opcode (some op) f n t h = h op

taken : (t : Bool) (x : Answer Instruction) → Other x → is_eight (cond t (refused 8) x) ≡ t
unfolding is_eight Other
taken true x h = refl
taken false x h = h

left : (t : Bool) (x : Answer Instruction) → Other x → is_eight (cond t x (refused 8)) ≡ not t
unfolding is_eight Other
left true x h = h
left false x h = refl

-- a test that every number below n passes
every_below : ℕ → (ℕ → Bool) → Bool
every_below zero p = true
every_below (suc n) p = every_below n p && p n

below : (n : ℕ) (p : ℕ → Bool) → every_below n p ≡ true → (k : ℕ) → k < n → p k ≡ true
unfolding every_below
below zero p e k h = absurd (omega arith)
below (suc n) p e k h =
    let first = below n p (and_left (every_below n p) (p n) e) in
    below_more (λ k. p k ≡ true) n first (and_right (every_below n p) (p n) e) k (omega arith)

same : (a b : Bool) → beq a b ≡ true → a ≡ b
same true true e = refl
same true false e = sym e
same false true e = e
same false false e = refl

-- the 64 opcodes of R, with the bit l and without it, and those of M
abbrev by_table : Bool → ℕ → Bool
by_table l o = cond (is_listed (operation_at table_r o)) l (eqb (cond (is_in o not-fitted-opcodes) 8 7) 8)

opcodes-R : (l : Bool) (o : ℕ) → o < 64 → by_table l o ≡ not_fitted_r o (cond l 1 0)
unfolding every_below is_listed find
opcodes-R true o h = same _ _ (below 64 (λ o. beq (by_table true o) (not_fitted_r o 1)) refl o h)
opcodes-R false o h = same _ _ (below 64 (λ o. beq (by_table false o) (not_fitted_r o 0)) refl o h)

opcodes-M : (o : ℕ) → o < 64 → is_listed (operation_at table_m o) ≡ named_m o
unfolding every_below is_listed find
opcodes-M o h = same _ _ (below 64 (λ o. beq (is_listed (operation_at table_m o)) (named_m o)) refl o h)

-- a bit, as the number that it is
bit_is : (n : ℕ) → n < 2 → cond (eqb n 1) 1 0 ≡ n
bit_is zero h = refl
bit_is (suc zero) h = refl
bit_is (suc (suc n)) h = absurd (let z : suc (suc n) < 2 = h in omega arith)

two-bits : (a b : ℕ) → a < 2 → b < 2 → not (eqb (2 * a + b) 0) ≡ (eqb a 1 || eqb b 1)
two-bits zero zero h g = refl
two-bits zero (suc zero) h g = refl
two-bits (suc zero) zero h g = refl
two-bits (suc zero) (suc zero) h g = refl
two-bits zero (suc (suc b)) h g = absurd (let z : suc (suc b) < 2 = g in omega arith)
two-bits (suc zero) (suc (suc b)) h g = absurd (let z : suc (suc b) < 2 = g in omega arith)
two-bits (suc (suc a)) b h g = absurd (let z : suc (suc a) < 2 = h in omega arith)

of-R : (w : ℕ) → is_eight (read_r w) ≡ not_fitted_r (bits w 29 24) (bits w 4 4)
unfolding read_r as_r
of-R w =
    by-opcode _ (as_r w) _ (eqb (bits w 4 4) 1) (λ op. taken (eqb (bits w 4 4) 1) _ (guarded-other _ _))
    ∙ opcodes-R (eqb (bits w 4 4) 1) (bits w 29 24) (omega arith)
    ∙ ap (not_fitted_r (bits w 29 24)) (bit_is (bits w 4 4) (omega arith))

if-and : (a b : Bool) → cond a b false ≡ (a && b)
if-and true b = refl
if-and false b = refl

of-M : (w : ℕ) → is_eight (read_m w) ≡ not_fitted_m (bits w 29 24) (bits w 2 2) (bits w 1 1)
unfolding read_m as_m
of-M w =
    by-opcode _ (as_m w) _ (not (eqb (bits w 2 1) 0)) (λ op. left (eqb (bits w 2 1) 0) _ (guarded-other _ _))
    ∙ ap (λ t. cond t (not (eqb (bits w 2 1) 0)) false) (opcodes-M (bits w 29 24) (omega arith))
    ∙ if-and (named_m (bits w 29 24)) (not (eqb (bits w 2 1) 0))
    ∙ ap (λ (n : ℕ). named_m (bits w 29 24) && not (eqb n 0)) (let e : bits w 2 1 ≡ 2 * bits w 2 2 + bits w 1 1 = omega arith in e)
    ∙ ap (λ t. named_m (bits w 29 24) && t) (two-bits (bits w 2 2) (bits w 1 1) (omega arith) (omega arith))

-- all words, by their two highest bits
of_zero : (w : ℕ) → bits w 31 30 ≡ 0b00 → is_eight (read w) ≡ not_fitted w
unfolding read
of_zero w e = ap is_eight (is-R reads w e) ∙ of-R w ∙ rw e (sym (or-false (not_fitted_r (bits w 29 24) (bits w 4 4))))

of_two : (w : ℕ) → bits w 31 30 ≡ 0b10 → is_eight (read w) ≡ not_fitted w
unfolding read
of_two w e = ap is_eight (is-M reads w e) ∙ of-M w ∙ rw e

of_other : (w : ℕ) → eqb (bits w 31 30) 0b00 ≡ false → eqb (bits w 31 30) 0b10 ≡ false → Other (read w)
unfolding read
of_other w p q =
    let o = read-other w in
    rw (p, q)
    (by-test Other (eqb (bits w 31 29) 0b010) o.0
    (by-test Other (eqb (bits w 31 27) 0b01100) o.1
    (by-test Other (eqb (bits w 31 27) 0b01110) o.2
    (by-test Other (eqb (bits w 31 27) 0b01111) o.3 undefined-other))))

of_word : (w : ℕ) → is_eight (read w) ≡ not_fitted w
unfolding Other
of_word w = go (bits w 31 30) (omega arith) refl
  where
    go : (n : ℕ) → n < 4 → bits w 31 30 ≡ n → is_eight (read w) ≡ not_fitted w
    go zero h e = of_zero w e
    go (suc zero) h e = of_other w (rw e) (rw e) ∙ rw e
    go (suc (suc zero)) h e = of_two w e
    go (suc (suc (suc zero))) h e = of_other w (rw e) (rw e) ∙ rw e
    go (suc (suc (suc (suc n)))) h e = absurd (let z : suc (suc (suc (suc n))) < 4 = h in omega arith)

pub not-fitted-exactly : NotFittedExactly
unfolding NotFittedExactly is_eight
not-fitted-exactly w = ((λ e. sym (of_word w) ∙ ap is_eight e), (λ e. eight (read w) (of_word w ∙ e)))

pub rows-hold : RowsHold
unfolding RowsHold read read_r read_i read_movei read_j read_c read_m as_r as_i as_movei as_j as_c as_m guarded listed find all signed
rows-hold =
    (refl, (refl, (refl, (refl, (refl, (refl, (refl, (refl, (refl, (refl, (refl, (refl, (refl, (refl, (refl, (refl, (refl, (refl, (refl, (refl, (refl, (refl, (refl, (refl, (refl, (refl, (refl, (refl, (refl, (refl, (refl, (refl, (refl, (refl, (refl, (refl, (refl, (refl, (refl, (refl, tt))))))))))))))))))))))))))))))))))))))))
