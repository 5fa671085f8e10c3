-- Lines cut off a text.
use Prim.Native.Nat.{ℕ, suc, ◌+◌, ◌-◌, ◌<◌, ◌≤◌}
use mathlib.Core.Bool.{Bool, true, false, cond, not}
use mathlib.Core.List.{List, [], ◌∷◌, ◌++◌, append-nil, append_assoc}
use mathlib.Core.Path.{◌≡◌, refl, ◌∙◌}
use native.Mathlib.Omega.{arith}
use lib.Dec.{eqb, lit≤}
use lib.Seq.{take_all}
use lib.ListN.{length, take, drop, length-drop}
use borrow.Author.Tests.{ltb-true, ltb-false}
use Rattle.std.specs.Prelude.{◌==◌, nat_lt, Some, None, position}
use Rattle.std.specs.List.{position_or_len}
use Rattle.intel_hex.specs.Record.{without_cr, line, rest, lines_from, lines}
use Rattle.intel_hex.specs.Scan.{line_length}

-- a line that ends
pub cut : (begun t : List ℕ) → line_length t < length t →
    lines_from begun t ≡ line (begun ++ take (line_length t) t) true ∷ lines (drop (suc (line_length t)) t)
unfolding lines_from line_length
cut begun [] h = absurd (omega arith)
cut begun (c ∷ t) h = go (cut (begun ++ c ∷ []) t) (eqb c 10) h
  where
    go : (line_length t < length t → lines_from (begun ++ c ∷ []) t ≡ line ((begun ++ c ∷ []) ++ take (line_length t) t) true ∷ lines (drop (suc (line_length t)) t)) →
        (b : Bool) → cond b 0 (suc (line_length t)) < suc (length t) →
        cond b (line begun true ∷ lines_from [] t) (lines_from (begun ++ c ∷ []) t)
        ≡ line (begun ++ take (cond b 0 (suc (line_length t))) (c ∷ t)) true ∷ lines (drop (suc (cond b 0 (suc (line_length t)))) (c ∷ t))
    go ih true g = rw (append-nil begun)
    go ih false g = ih (omega arith) ∙ rw (append_assoc begun (c ∷ []) (take (line_length t) t))

-- and one that does not
pub uncut : (begun t : List ℕ) → line_length t ≡ length t → lines_from begun t ≡ rest (begun ++ t)
unfolding lines_from line_length
uncut begun [] h = rw (append-nil begun)
uncut begun (c ∷ t) h = go (uncut (begun ++ c ∷ []) t) (eqb c 10) h
  where
    go : (line_length t ≡ length t → lines_from (begun ++ c ∷ []) t ≡ rest ((begun ++ c ∷ []) ++ t)) →
        (b : Bool) → cond b 0 (suc (line_length t)) ≡ suc (length t) →
        cond b (line begun true ∷ lines_from [] t) (lines_from (begun ++ c ∷ []) t) ≡ rest (begun ++ c ∷ t)
    go ih true g = let z : ◌≡◌ {A = ℕ} 0 1 = cc in absurd (omega arith)
    go ih false g = let z : suc (line_length t) ≡ suc (length t) = g in ih (omega arith) ∙ rw (append_assoc begun (c ∷ []) t)

-- the length of a line, by where the first LF is
pub lf-length : (t : List ℕ) → position_or_len (λ c. c == 10) t ≡ line_length t
unfolding line_length
lf-length [] = refl
lf-length (c ∷ t) = go (lf-length t) (c == 10)
  where
    go : position_or_len (λ c. c == 10) t ≡ line_length t → (b : Bool) → cond (not b) (1 + position_or_len (λ c. c == 10) t) 0 ≡ cond b 0 (suc (line_length t))
    go ih true = refl
    go ih false = omega arith

pub lf-within : (t : List ℕ) → line_length t ≤ length t
unfolding line_length
lf-within [] = lit≤ tt
lf-within (c ∷ t) = go (lf-within t) (c == 10)
  where
    go : line_length t ≤ length t → (b : Bool) → cond b 0 (suc (line_length t)) ≤ suc (length t)
    go ih true = omega arith
    go ih false = omega arith

pub lf-some : (t : List ℕ) (n : ℕ) → Some n ≡ position (λ c. c == 10) t → n ≡ line_length t
lf-some t n e = go (nat_lt (position_or_len (λ c. c == 10) t) (length t)) e
  where
    go : (b : Bool) → Some n ≡ cond b (Some (position_or_len (λ c. c == 10) t)) None → n ≡ line_length t
    go true e = let f : n ≡ position_or_len (λ c. c == 10) t = cc in f ∙ lf-length t
    go false e = let z : ◌≡◌ {A = ℕ} 0 1 = cc in absurd (omega arith)

pub lf-below : (t : List ℕ) (n : ℕ) → Some n ≡ position (λ c. c == 10) t → n < length t
lf-below t n e = go (nat_lt (position_or_len (λ c. c == 10) t) (length t)) refl e
  where
    go : (b : Bool) → nat_lt (position_or_len (λ c. c == 10) t) (length t) ≡ b → Some n ≡ cond b (Some (position_or_len (λ c. c == 10) t)) None → n < length t
    go true h e = let f : n ≡ position_or_len (λ c. c == 10) t = cc in omega (arith, ltb-true _ _ h)
    go false h e = let z : ◌≡◌ {A = ℕ} 0 1 = cc in absurd (omega arith)

pub lf-none : (t : List ℕ) → None ≡ position (λ c. c == 10) t → line_length t ≡ length t
lf-none t e = go (nat_lt (position_or_len (λ c. c == 10) t) (length t)) refl e
  where
    go : (b : Bool) → nat_lt (position_or_len (λ c. c == 10) t) (length t) ≡ b → None ≡ cond b (Some (position_or_len (λ c. c == 10) t)) None → line_length t ≡ length t
    go true h e = let z : ◌≡◌ {A = ℕ} 0 1 = cc in absurd (omega arith)
    go false h e = omega (arith, lf-length t, lf-within t, ltb-false _ _ h)

pub nil : (t : List ℕ) → length t ≡ 0 → t ≡ []
nil [] h = refl
nil (c ∷ t) h = absurd (omega arith)

-- what is left of a text
pub rest_of : (t : List ℕ) (at : ℕ) → take (length t - at) (drop at t) ≡ drop at t
rest_of t at = take_all (length t - at) (drop at t) (omega (arith, length-drop at t))

pub empty : (t : List ℕ) → length t < 1 → without_cr t ≡ t
unfolding without_cr
empty [] h = refl
empty (c ∷ t) h = absurd (omega arith)
