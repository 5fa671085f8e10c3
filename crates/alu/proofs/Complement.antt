-- Quotients and remainders of what lies below a power of two: the arithmetic shift of a negative word.
use Rattle.std.proofs.Common.{◌≡◌, ℕ, ◌+◌, ◌-◌, ◌*◌, ◌/◌, ◌%◌, ◌^◌, ◌<◌, ◌≤◌, sym, ap, ◌∙◌, mod-lt, mod-eq_of_lt, div-lt_iff_lt-mul, add-mul, one-mul, div-add-mod', arith, pow_pos, pow-add}
use lib.Arith.{digits_div, digits_mod}
use lib.Pow.{shr_le}

pub complement-div : (m p a : ℕ) → 0 < p → a < m * p → (m * p - 1 - a) / p ≡ m - 1 - a / p
complement-div m p a hp h =
    let q : a / p < m = (div-lt_iff_lt-mul hp).1 h in
    let e : m ≡ (m - 1 - a / p) + 1 + a / p = omega arith in
    let f : m * p ≡ (m - 1 - a / p) * p + p + a / p * p = ap (λ (n : ℕ). n * p) e ∙ simp (add-mul, one-mul) in
    let g : m * p - 1 - a ≡ (m - 1 - a / p) * p + (p - 1 - a % p) = omega (arith, div-add-mod' a p, mod-lt a hp) in
    ap (λ (n : ℕ). n / p) g ∙ digits_div (m - 1 - a / p) (omega arith)

complement-mod : (m p a : ℕ) → 0 < m → a < p → (m * p - 1 - a) % p ≡ p - 1 - a
complement-mod m p a hm h =
    let f : m * p ≡ (m - 1) * p + p = ap (λ (n : ℕ). n * p) (let e : m ≡ m - 1 + 1 = omega arith in e) ∙ simp (add-mul, one-mul) in
    let g : m * p - 1 - a ≡ (m - 1) * p + (p - 1 - a) = omega arith in
    ap (λ (n : ℕ). n % p) g ∙ digits_mod (m - 1) (omega arith)

two-powers : (i j k : ℕ) → i + j ≡ k → 2 ^ i * 2 ^ j ≡ 2 ^ k
two-powers i j k e = sym (pow-add 2 i j) ∙ ap (λ (n : ℕ). 2 ^ n) e

-- a is the complement of the word; the n bits that come in from above are ones
shifted : (a n : ℕ) → a < 2 ^ 32 → n ≤ 32 → (2 ^ 64 - 1 - a) / 2 ^ n % 2 ^ 32 ≡ 2 ^ 32 - 1 - a / 2 ^ n
shifted a n ha hn =
    let e : 2 ^ (64 - n) * 2 ^ n ≡ 2 ^ 64 = two-powers (64 - n) n 64 (omega arith) in
    let f : 2 ^ (32 - n) * 2 ^ 32 ≡ 2 ^ (64 - n) = two-powers (32 - n) 32 (64 - n) (omega arith) in
    ap (λ (m : ℕ). (m - 1 - a) / 2 ^ n % 2 ^ 32) (sym e)
    ∙ ap (λ (m : ℕ). m % 2 ^ 32) (complement-div (2 ^ (64 - n)) (2 ^ n) a (pow_pos n) (omega arith))
    ∙ ap (λ (m : ℕ). (m - 1 - a / 2 ^ n) % 2 ^ 32) (sym f)
    ∙ complement-mod (2 ^ (32 - n)) (2 ^ 32) (a / 2 ^ n) (pow_pos (32 - n)) (omega (arith, shr_le a n))

pub ashr-negative : (x n : ℕ) → x < 2 ^ 32 → n ≤ 32 → (x + (2 ^ 64 - 2 ^ 32)) / 2 ^ n % 2 ^ 32 ≡ 2 ^ 32 - 1 - (2 ^ 32 - 1 - x) / 2 ^ n
ashr-negative x n hx hn =
    ap (λ (m : ℕ). m / 2 ^ n % 2 ^ 32) (let e : x + (2 ^ 64 - 2 ^ 32) ≡ 2 ^ 64 - 1 - (2 ^ 32 - 1 - x) = omega arith in e)
    ∙ shifted (2 ^ 32 - 1 - x) n (omega arith) hn

pub ashr-positive : (x n : ℕ) → x < 2 ^ 32 → x / 2 ^ n % 2 ^ 32 ≡ x / 2 ^ n
ashr-positive x n hx = mod-eq_of_lt (let h : x / 2 ^ n < 2 ^ 32 = omega (arith, shr_le x n) in h)
