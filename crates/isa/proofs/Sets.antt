-- A list of vector flags, and the set that the code looks them up in.
use Rattle.std.proofs.Common.{◌≡◌, ℕ, zero, suc, ◌^◌, ◌<◌, ◌≤◌, Bool, true, false, cond, not, ◌&&◌, ◌||◌, eqb, ltb, List, [], ◌∷◌, sym, refl, subst, arith, ltb-false, ltb-true, ne_eqb}
use mathlib.Core.Bool.{false≢true}
use Rattle.isa.specs.Rule.{flags_r, flags_class, flags_i}
use Rattle.isa.specs.Table.{row_r}
use Rattle.isa.specs.Test.{is_in_from, is_in, set_of, in_set}
use Rattle.isa.specs.declared.instruction.UnaryOp.TheVariants.{Clz, Ctz, Move, Sext8, Sext16, IntToFloat, FloatToInt}
use Rattle.isa.specs.Types.{Operation, Binary, Unary, Compare, Shuffle, GetLane}
use Rattle.isa.proofs.Both.{and_left, and_right}

-- every number of the list is below 8
abbrev small : List ℕ → Bool
small [] = true
small (x ∷ xs) = ltb x 8 && small xs

-- a number that is not below 8 stands in no such list
not-in-from : (t : Bool) (f : ℕ) (xs : List ℕ) → t ≡ false → small xs ≡ true → 8 ≤ f → is_in_from t f xs ≡ false
not-in-from t f [] e s l = e
not-in-from t f (x ∷ xs) e s l =
    let below : x < 8 = ltb-true x 8 (and_left (ltb x 8) (small xs) s) in
    let g : (t || eqb f x) ≡ false = rw (e, ne_eqb f x (λ i. absurd (let j : f ≡ x = i in omega arith))) in
    not-in-from (t || eqb f x) f xs g (and_right (ltb x 8) (small xs) s) l

not_in : (f : ℕ) (xs : List ℕ) → small xs ≡ true → 8 ≤ f → is_in f xs ≡ false
not_in f [] s l = refl
not_in f (x ∷ xs) s l =
    let below : x < 8 = ltb-true x 8 (and_left (ltb x 8) (small xs) s) in
    not-in-from (eqb f x) f xs (ne_eqb f x (λ i. absurd (let j : f ≡ x = i in omega arith))) (and_right (ltb x 8) (small xs) s) l

-- the list and its set agree on a number
abbrev Agree : List ℕ → ℕ → Type 0
Agree xs f = in_set (set_of xs) f ≡ is_in f xs

-- they agree on the numbers below n, as a test that is computed
abbrev same : Bool → Bool → Bool
same true b = b
same false b = not b

abbrev agree_below : List ℕ → ℕ → Bool
agree_below xs zero = true
agree_below xs (suc n) = agree_below xs n && same (in_set (set_of xs) n) (is_in n xs)

same-means : (a b : Bool) → same a b ≡ true → a ≡ b
same-means true true e = refl
same-means true false e = absurd (false≢true e)
same-means false true e = absurd (false≢true e)
same-means false false e = refl

below : (xs : List ℕ) (n f : ℕ) → agree_below xs n ≡ true → f < n → Agree xs f
below xs zero f e l = absurd (omega arith)
below xs (suc n) f e l = go (ltb f n) refl (below xs n f (and_left (agree_below xs n) (same (in_set (set_of xs) n) (is_in n xs)) e))
  where
    go : (b : Bool) → ltb f n ≡ b → (f < n → Agree xs f) → Agree xs f
    go true h k = k (ltb-true f n h)
    go false h k =
        let q : f ≡ n = omega (arith, ltb-false f n h) in
        subst (Agree xs) (sym q) (same-means _ _ (and_right (agree_below xs n) (same (in_set (set_of xs) n) (is_in n xs)) e))

-- they agree on every number, if they do on those below 8 and the list has no others
agree : (xs : List ℕ) → small xs ≡ true → agree_below xs 8 ≡ true → (f : ℕ) → Agree xs f
agree xs s h f = go (ltb f 8) refl
  where
    go : (b : Bool) → ltb f 8 ≡ b → Agree xs f
    go true e = below xs 8 f h (ltb-true f 8 e)
    go false e = rw (e, not_in f xs s (ltb-false f 8 e))

pub r-agrees : (op : Operation) (f : ℕ) → Agree (flags_r op) f
r-agrees (Binary op) = agree (flags_r (Binary op)) refl refl
r-agrees (Unary Clz) = agree (flags_r (Unary Clz)) refl refl
r-agrees (Unary Ctz) = agree (flags_r (Unary Ctz)) refl refl
r-agrees (Unary Move) = agree (flags_r (Unary Move)) refl refl
r-agrees (Unary Sext8) = agree (flags_r (Unary Sext8)) refl refl
r-agrees (Unary Sext16) = agree (flags_r (Unary Sext16)) refl refl
r-agrees (Unary IntToFloat) = agree (flags_r (Unary IntToFloat)) refl refl
r-agrees (Unary FloatToInt) = agree (flags_r (Unary FloatToInt)) refl refl
r-agrees (Compare op) = agree (flags_r (Compare op)) refl refl
r-agrees Shuffle = agree (flags_r Shuffle) refl refl
r-agrees GetLane = agree (flags_r GetLane) refl refl

class-agrees : (op : Operation) (f : ℕ) → Agree (flags_class op) f
class-agrees (Binary op) = agree (flags_class (Binary op)) refl refl
class-agrees (Unary op) = agree (flags_class (Unary op)) refl refl
class-agrees (Compare op) = agree (flags_class (Compare op)) refl refl
class-agrees Shuffle = agree (flags_class Shuffle) refl refl
class-agrees GetLane = agree (flags_class GetLane) refl refl

chosen : (t : Bool) (xs : List ℕ) (f : ℕ) → Agree xs f → Agree (cond t xs []) f
chosen true xs f h = h
chosen false xs f h = agree [] refl refl f

pub i-agrees : (op : Operation) (f : ℕ) → Agree (flags_i op) f
i-agrees op f = chosen (ltb (row_r op).opcode (2 ^ 5)) (flags_class op) f (class-agrees op f)
