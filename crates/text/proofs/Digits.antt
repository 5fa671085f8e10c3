-- Digits of a number: those of hex are quotients' remainders, and those that the kit's library writes are the number in decimal.
use Prim.Native.Nat.{ℕ, zero, suc, ◌+◌, ◌-◌, ◌/◌, ◌%◌, ◌^◌, ◌≤◌, ◌<◌}
use mathlib.Core.List.{List, [], ◌∷◌, ◌++◌}
use mathlib.Core.Path.{◌≡◌, ap}
use native.Mathlib.Nat.{div-div-eq-div-mul, pow-suc, one-le-pow, mod-eq_of_lt}
use native.Mathlib.Omega.{arith}
use borrow.Author.Tests.{lt-ltb, le-ltb}
use mathlib.Core.Bool.{cond}
use lib.Dec.{ltb, lit≤}
use Rattle.io.specs.Digits.{last_digits, IsDigitCount}
use Rattle.text.specs.Number.{digit, hex, decimal_in, decimal, decimal_long}

pub hex-is : (n : ℕ) → hex n ≡
    digit (n / 0x10000000 % 16) ∷ digit (n / 0x1000000 % 16) ∷ digit (n / 0x100000 % 16) ∷ digit (n / 0x10000 % 16) ∷
    digit (n / 0x1000 % 16) ∷ digit (n / 0x100 % 16) ∷ digit (n / 0x10 % 16) ∷ digit (n % 16) ∷ []
hex-is n = simp div-div-eq-div-mul

digits_in : (f n k : ℕ) → n < 10 ^ suc f → IsDigitCount 10 1 n k → last_digits 10 k n ≡ decimal_in (suc f) n
digits_in f n zero small few = absurd (omega (arith, few.0))
digits_in f n (suc zero) small few =
    let h : n < 10 = omega (arith, few.1) in
    rw (mod-eq_of_lt h, lt-ltb n 10 h)
digits_in zero n (suc (suc k)) small few =
    let e : suc (suc k) - 1 ≡ suc k = omega arith in
    let h : 10 ^ suc k ≤ n = rw e at (few.2 (omega arith)) in
    absurd (omega (arith, small, h, pow-suc 10 k, one-le-pow k 10 (lit≤ tt)))
digits_in (suc f) n (suc (suc k)) small few =
    let e : suc (suc k) - 1 ≡ suc k = omega arith in
    let d : suc k - 1 ≡ k = omega arith in
    let h : 10 ^ suc k ≤ n = rw e at (few.2 (omega arith)) in
    let p = pow-suc 10 k in
    let ten : 10 ≤ n = omega (arith, h, p, one-le-pow k 10 (lit≤ tt)) in
    let digit : n % 10 < 10 = omega arith in
    let rest = digits_in f (n / 10) (suc k) (omega (arith, small, pow-suc 10 (suc f))) (omega arith, omega (arith, few.1, pow-suc 10 (suc k)), λ _. rw d (omega (arith, h, p))) in
    rw (le-ltb n 10 ten, lt-ltb (n % 10) 10 digit, rest)

pub decimal-is : (n k : ℕ) → n < 2 ^ 64 → IsDigitCount 10 1 n k → last_digits 10 k n ≡ decimal_long n
unfolding decimal_long
decimal-is n k small few = digits_in 19 n k (omega (arith, small)) few

-- room for more digits than a number has changes nothing
in_both : (f g n : ℕ) → n < 10 ^ suc f → n < 10 ^ suc g → decimal_in (suc f) n ≡ decimal_in (suc g) n
in_both zero g n a b = rw (lt-ltb n 10 a)
in_both (suc f) zero n a b = rw (lt-ltb n 10 b)
in_both (suc f) (suc g) n a b =
    let h = in_both f g (n / 10) (omega (arith, a, pow-suc 10 (suc f))) (omega (arith, b, pow-suc 10 (suc g))) in
    ap (λ (l : List ℕ). cond (ltb n 10) ((48 + n) ∷ []) (l ++ (48 + n % 10) ∷ [])) h

pub long-is : (n : ℕ) → n < 2 ^ 32 → decimal_long n ≡ decimal n
unfolding decimal decimal_long
long-is n small = in_both 19 9 n (omega (arith, small)) (omega (arith, small))
