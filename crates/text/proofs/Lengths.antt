-- How long a number in decimal is.
use Prim.Native.Nat.{ℕ, zero, suc, ◌+◌, ◌/◌, ◌%◌, ◌^◌, ◌<◌, ◌≤◌}
use mathlib.Core.Bool.{Bool, true, false, cond}
use mathlib.Core.List.{[], ◌∷◌, ◌++◌}
use native.Mathlib.Nat.{pow-suc}
use native.Mathlib.Omega.{arith}
use borrow.Author.Tests.{lt-ltb}
use lib.Dec.{ltb, lit≤}
use lib.ListN.{length, length-append}
use Rattle.text.specs.Number.{decimal_in, decimal, decimal_long}

decimal-in-small : (k n : ℕ) → length (decimal_in k n) ≤ k
decimal-in-small zero n = lit≤ tt
decimal-in-small (suc k) n = go (decimal-in-small k (n / 10)) (ltb n 10)
  where
    go : length (decimal_in k (n / 10)) ≤ k → (t : Bool) → length (cond t ((48 + n) ∷ []) (decimal_in k (n / 10) ++ (48 + n % 10) ∷ [])) ≤ suc k
    go h true = omega arith
    go h false = omega (arith, length-append (decimal_in k (n / 10)) ((48 + n % 10) ∷ []), h)

pub decimal-small : (n : ℕ) → length (decimal n) ≤ 10
unfolding decimal
decimal-small n = decimal-in-small 10 n

pub decimal-long-small : (n : ℕ) → length (decimal_long n) ≤ 20
unfolding decimal_long
decimal-long-small n = decimal-in-small 20 n

-- a number below a power of ten has at most so many digits
decimal-in-short : (k n j : ℕ) → n < 10 ^ suc j → length (decimal_in k n) ≤ suc j
decimal-in-short zero n j h = omega arith
decimal-in-short (suc k) n zero h = rw (lt-ltb n 10 h) (lit≤ tt)
decimal-in-short (suc k) n (suc j) h = go (decimal-in-short k (n / 10) j (omega (arith, h, pow-suc 10 (suc j)))) (ltb n 10)
  where
    go : length (decimal_in k (n / 10)) ≤ suc j → (t : Bool) → length (cond t ((48 + n) ∷ []) (decimal_in k (n / 10) ++ (48 + n % 10) ∷ [])) ≤ suc (suc j)
    go g true = omega arith
    go g false = omega (arith, length-append (decimal_in k (n / 10)) ((48 + n % 10) ∷ []), g)

pub decimal-short : (n : ℕ) → n < 100000 → length (decimal n) ≤ 5
unfolding decimal
decimal-short n h = decimal-in-short 10 n 4 h
