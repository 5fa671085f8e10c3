-- Digits read one by one, up to the limit.
use Prim.Native.Nat.{ℕ, ◌+◌, ◌-◌, ◌*◌, ◌<◌, ◌≤◌}
use mathlib.Core.Bool.{Bool, true, false, ◌&&◌, cond}
use mathlib.Core.List.{List, [], ◌∷◌}
use mathlib.Core.Option.{none, some}
use mathlib.Core.Path.{◌≡◌, refl, sym, ap, ◌∙◌}
use native.Mathlib.Numerals.{add-one}
use native.Mathlib.Omega.{arith}
use borrow.Author.Tests.{lt-ltb, le-ltb, ltb-true, ltb-false, eq-eqb, ne_eqb, eqb-true, eqb-false}
use lib.Dec.{ltb, eqb}
use lib.ListN.{length, take, drop, get_or, length-drop, drop_of_length-le}
use native.Mathlib.Nat.{mul-le-mul, mul-le-mul_left}
use lib.Seq.{drop-cons, take-length}
use Rattle.std.specs.List.{list_all, starts_with}
use Rattle.token.specs.Byte.{digit, is_letter}
use Rattle.token.specs.Name.{all_letters}
use Rattle.token.specs.Number.{digits_on, numeral, is_hex}
use Rattle.token.specs.Word.{cap, capped}

cap-small-by : (n : ℕ) → n ≤ 0x80000001 → (b : Bool) → ltb 0x80000000 n ≡ b → cap n ≡ n
unfolding cap
cap-small-by n h true e = rw e (omega (arith, ltb-true 0x80000000 n e))
cap-small-by n h false e = rw e

pub cap-small : (n : ℕ) → n ≤ 0x80000001 → cap n ≡ n
unfolding cap
cap-small n h = cap-small-by n h (ltb 0x80000000 n) refl

cap-at-most-by : (n : ℕ) (b : Bool) → ltb 0x80000000 n ≡ b → cap n ≤ 0x80000001
unfolding cap
cap-at-most-by n true e = rw e (omega arith)
cap-at-most-by n false e = rw e (omega (arith, ltb-false 0x80000000 n e))

grows : (m base : ℕ) → 1 < base → m ≤ m * base
grows m base h = omega (arith, mul-le-mul_left m h)

pub cap-large : (n : ℕ) → 0x80000000 < n → cap n ≡ 0x80000001
unfolding cap
cap-large n h = rw (lt-ltb 0x80000000 n h)

cap-step-by : (m base d : ℕ) → 1 < base → (b : Bool) → ltb 0x80000000 m ≡ b → cap (cap m * base + d) ≡ cap (m * base + d)
cap-step-by m base d h true e =
    let g = ltb-true 0x80000000 m e in
    let k : 0x80000000 < m * base + d = omega (arith, grows m base h) in
    rw (cap-large m g, cap-large (0x80000001 * base + d) (omega arith), cap-large (m * base + d) k)
cap-step-by m base d h false e = rw (cap-small m (omega (arith, ltb-false 0x80000000 m e)))

cap-on-by : (base c : ℕ) (cs : List ℕ) (m : ℕ) (b : Bool) → capped (digits_on base (cap m * base + digit c) cs) ≡ capped (digits_on base (m * base + digit c) cs) → capped (cond b (digits_on base (cap m * base + digit c) cs) none) ≡ capped (cond b (digits_on base (m * base + digit c) cs) none)
cap-on-by base c cs m true h = h
cap-on-by base c cs m false h = refl

digit-taken : (l : List ℕ) (i base n : ℕ) → i < length l → digit (get_or l i 0) < base → capped (digits_on base n (drop i l)) ≡ capped (digits_on base (n * base + digit (get_or l i 0)) (drop (i + 1) l))
unfolding digits_on
digit-taken l i base n h d = rw (drop-cons l i 0 h, lt-ltb (digit (get_or l i 0)) base d, add-one i)

pub cap-at-most : (n : ℕ) → cap n ≤ 0x80000001
unfolding cap
cap-at-most n = cap-at-most-by n (ltb 0x80000000 n) refl

-- digits behind a number and behind its cap
cap-step : (m base d : ℕ) → 1 < base → cap (cap m * base + d) ≡ cap (m * base + d)
cap-step m base d h = cap-step-by m base d h (ltb 0x80000000 m) refl

pub cap-on : (base : ℕ) → 1 < base → (w : List ℕ) (m : ℕ) → capped (digits_on base (cap m) w) ≡ capped (digits_on base m w)
unfolding digits_on
cap-on base h [] m = ap some (cap-small (cap m) (cap-at-most m))
cap-on base h (c ∷ cs) m = cap-on-by base c cs m (ltb (digit c) base) (sym (cap-on base h cs (cap m * base + digit c)) ∙ ap (λ k. capped (digits_on base k cs)) (cap-step m base (digit c) h) ∙ cap-on base h cs (m * base + digit c))

-- one digit further
pub digit-on : (l : List ℕ) (i base n : ℕ) → i < length l → 1 < base → digit (get_or l i 0) < base → capped (digits_on base (cap (n * base + digit (get_or l i 0))) (drop (i + 1) l)) ≡ capped (digits_on base n (drop i l))
digit-on l i base n h b d =
    cap-on base b (drop (i + 1) l) (n * base + digit (get_or l i 0))
    ∙ sym (digit-taken l i base n h d)

pub digit-bad : (l : List ℕ) (i base n : ℕ) → i < length l → base ≤ digit (get_or l i 0) → none ≡ capped (digits_on base n (drop i l))
unfolding digits_on
digit-bad l i base n h d = rw (drop-cons l i 0 h, le-ltb (digit (get_or l i 0)) base d)

pub digits-end : (l : List ℕ) (i base n : ℕ) → length l ≤ i → n ≤ 0x80000001 → some n ≡ capped (digits_on base n (drop i l))
unfolding digits_on
digits-end l i base n e h = rw (drop_of_length-le l {i = i} e, cap-small n h)

pub numeral-none : (l : List ℕ) (base : ℕ) → length l ≡ 0 → none ≡ capped (numeral base l)
unfolding numeral
numeral-none [] base h = refl
numeral-none (c ∷ l) base h = absurd (omega arith)

pub numeral-some : (l : List ℕ) (base : ℕ) → 0 < length l → capped (digits_on base 0 l) ≡ capped (numeral base l)
unfolding numeral
numeral-some [] base h = absurd (omega arith)
numeral-some (c ∷ l) base h = refl

-- letters

pub letters_are : (l : List ℕ) → list_all is_letter l ≡ all_letters l
unfolding all_letters
letters_are [] = refl
letters_are (c ∷ l) = ap (λ b. is_letter c && b) (letters_are l)

-- a number and a base are multiplied without loss
pub small_product : (n base : ℕ) → n ≤ 0x80000001 → base ≤ 16 → n * base ≤ 0x800000010
small_product n base h k = mul-le-mul h k

-- whether a word begins as a hex number does

flip_by : (a b : ℕ) (x : Bool) → eqb a b ≡ x → x ≡ eqb b a
flip_by a b true e = sym (eq-eqb b a (sym (eqb-true a b e)))
flip_by a b false e = sym (ne_eqb b a (λ h. eqb-false a b e (sym h)))

flip : (a b : ℕ) → eqb a b ≡ eqb b a
flip a b = flip_by a b (eqb a b) refl

and-true : (b : Bool) → b && true ≡ b
and-true true = refl
and-true false = refl

pub and-false : (b : Bool) → b && false ≡ false
and-false true = refl
and-false false = refl

pub starts_hex : (w : List ℕ) → starts_with eqb w (48 ∷ 120 ∷ []) ≡ is_hex w
starts_hex [] = refl
starts_hex (a ∷ []) = and-false (eqb 48 a) ∙ sym (and-false (eqb a 48))
starts_hex (a ∷ b ∷ w) = rw (flip 48 a, flip 120 b, and-true (eqb b 120))

-- what stands behind the first two bytes
pub behind_two : (w : List ℕ) → take (length w - 2) (drop 2 w) ≡ drop 2 w
behind_two w = ap (λ n. take n (drop 2 w)) (sym (length-drop 2 w)) ∙ take-length (drop 2 w)
