-- The signed operations are those of the signed whole numbers: proofs of the claims.
use Rattle.std.proofs.Common.{◌≡◌, ℕ, zero, suc, ◌+◌, ◌-◌, ◌*◌, ◌/◌, ◌%◌, ◌^◌, ◌<◌, ◌≤◌, Bool, true, false, cond, leb, pos, negsuc, ◌*ℤ◌, neg_ℤ, sym, refl, ap, ◌∙◌, ap₂, inl, inr, mod-eq_of_lt, mul_comm, add-mul, mul-le-mul, mul-le-mul_left, mul-add, arith, pow_pos, pow_mono, pow-add, leb-false, leb-true}
use native.Mathlib.Nat.{mul-sub, add-mul-mod_self_right}
use lib.Arith.{digits_mod}
use lib.Pow.{shr_le}
use lib.Signed.{shr_z}
use Rattle.word_layout.specs.Layout.{extended}
use Rattle.twos_complement.specs.Word.{value}
use Rattle.alu.specs.Binary.{distance}
use Rattle.alu.specs.Claims.{MulhiIsSigned, AshrIsSigned, Sext8IsSigned, Sext16IsSigned}
use Rattle.alu.proofs.Complement.{complement-div, ashr-negative, ashr-positive}
use Rattle.twos_complement.proofs.Sign.{value-positive, value-negative, value-below, Sign, sign}

-- ---- ashr

shifted : (x n : ℕ) → n ≤ 32 → x < 2 ^ 32 → Sign x → value 32 (extended 64 (2 ^ 31) x / 2 ^ n % 2 ^ 32) ≡ shr_z (value 32 x) (2 ^ n)
unfolding Sign
shifted x n hn hx (inl p) =
    ap (λ (w : ℕ). value 32 (w / 2 ^ n % 2 ^ 32)) p.wide
    ∙ ap (value 32) (ashr-positive x n hx)
    ∙ value-positive 32 (x / 2 ^ n) (omega (arith, shr_le x n, p.below))
    ∙ sym (ap (λ z. shr_z z (2 ^ n)) p.is)
shifted x n hn hx (inr p) =
    ap (λ (w : ℕ). value 32 (w / 2 ^ n % 2 ^ 32)) (let e : extended 64 (2 ^ 31) x ≡ x + (2 ^ 64 - 2 ^ 32) = p.wide ∙ omega (arith, p.word, p.below) in e)
    ∙ ap (value 32) (ashr-negative x n hx hn ∙ ap (λ (a : ℕ). 2 ^ 32 - 1 - a / 2 ^ n) (let e : 2 ^ 32 - 1 - x ≡ 2 ^ 32 - suc x = omega arith in e))
    ∙ value-below ((2 ^ 32 - suc x) / 2 ^ n) (omega (arith, shr_le (2 ^ 32 - suc x) n, p.below))
    ∙ sym (ap (λ z. shr_z z (2 ^ n)) p.is)

pub ashr-signed : AshrIsSigned
ashr-signed x y hx = shifted x (distance y) (omega arith) hx (sign x hx)

-- ---- sext8 and sext16

extension : (from x : ℕ) → 0 < from → from ≤ 32 → x < 2 ^ from → value 32 (extended 32 (2 ^ (from - 1)) x) ≡ value from x
extension from x h0 h l = go (leb (2 ^ (from - 1)) x) refl
  where
    half : 2 ^ (from - 1) ≤ 2 ^ 31
    half = pow_mono {j = 31} (omega arith)

    whole : 2 ^ from ≡ 2 ^ (from - 1) * 2
    whole = ap (λ (n : ℕ). 2 ^ n) (let e : from ≡ from - 1 + 1 = omega arith in e) ∙ pow-add 2 (from - 1) 1

    go : (t : Bool) → leb (2 ^ (from - 1)) x ≡ t → value 32 (extended 32 (2 ^ (from - 1)) x) ≡ value from x
    go false e =
        let b : x < 2 ^ (from - 1) = leb-false (2 ^ (from - 1)) x e in
        ap (λ t. value 32 (cond t (x + (2 ^ 32 - 2 * 2 ^ (from - 1))) x)) e ∙ value-positive 32 x (omega (arith, half)) ∙ sym (value-positive from x b)
    go true e =
        let b : 2 ^ (from - 1) ≤ x = leb-true (2 ^ (from - 1)) x e in
        ap (λ t. value 32 (cond t (x + (2 ^ 32 - 2 * 2 ^ (from - 1))) x)) e
        ∙ value-negative 32 (x + (2 ^ 32 - 2 * 2 ^ (from - 1))) (omega (arith, half, whole)) (omega (arith, half, whole))
        ∙ ap negsuc (omega (arith, half, whole))
        ∙ sym (value-negative from x b l)

pub sext8-signed : Sext8IsSigned
sext8-signed x = extension 8 (x % 2 ^ 8) (omega arith) (omega arith) (omega arith)

pub sext16-signed : Sext16IsSigned
sext16-signed x = extension 16 (x % 2 ^ 16) (omega arith) (omega arith) (omega arith)

-- ---- mulhi

high : ℕ → ℕ → ℕ
high a b = a * b % 2 ^ 64 / 2 ^ 32

-- the product of two negative numbers is that of their complements
complements : (m a b : ℕ) → a ≤ m → b ≤ m → (m - a) * (m - b) % m ≡ a * b % m
complements m a b ha hb =
    let e : (m - a) * (m - b) + (m - a) * b ≡ (m - a) * m = sym (mul-add (m - a) (m - b) b) ∙ ap (λ (n : ℕ). (m - a) * n) (omega arith) in
    let f : (m - a) * b + a * b ≡ b * m = sym (add-mul (m - a) a b) ∙ ap (λ (n : ℕ). n * b) (let g : m - a + a ≡ m = omega arith in g) ∙ mul_comm m b in
    let g : (m - a) * (m - b) + b * m ≡ a * b + (m - a) * m = omega arith in
    sym (add-mul-mod_self_right ((m - a) * (m - b)) b m) ∙ ap (λ (n : ℕ). n % m) g ∙ add-mul-mod_self_right (a * b) (m - a) m

-- a positive number times a negative one
opposite : (x b : ℕ) → x < 2 ^ 31 → b ≤ 2 ^ 31 → value 32 (high x (2 ^ 64 - b)) ≡ shr_z (neg_ℤ (pos (x * b))) (2 ^ 32)
unfolding high
opposite x b hx hb = ap (λ (n : ℕ). value 32 (n % 2 ^ 64 / 2 ^ 32)) (mul-sub x (2 ^ 64) b) ∙ go (x * b) (mul-le-mul_left x hb)
  where
    go : (n : ℕ) → n ≤ x * 2 ^ 31 → value 32 ((x * 2 ^ 64 - n) % 2 ^ 64 / 2 ^ 32) ≡ shr_z (neg_ℤ (pos n)) (2 ^ 32)
    go zero h = ap (λ (n : ℕ). value 32 (n / 2 ^ 32)) (let e : (x * 2 ^ 64 - 0) % 2 ^ 64 ≡ 0 = omega arith in e)
    go (suc n) h =
        let e : x * 2 ^ 64 - suc n ≡ (x - 1) * 2 ^ 64 + (2 ^ 32 * 2 ^ 32 - 1 - n) = omega arith in
        ap (λ (k : ℕ). value 32 (k % 2 ^ 64 / 2 ^ 32)) e
        ∙ ap (λ (k : ℕ). value 32 (k / 2 ^ 32)) (digits_mod (x - 1) {m = 2 ^ 64} (omega arith))
        ∙ ap (value 32) (complement-div (2 ^ 32) (2 ^ 32) n (pow_pos 32) (omega arith))
        ∙ value-below (n / 2 ^ 32) (omega arith)

multiplied : (x y : ℕ) → Sign x → Sign y → value 32 (high (extended 64 (2 ^ 31) x) (extended 64 (2 ^ 31) y)) ≡ shr_z (value 32 x *ℤ value 32 y) (2 ^ 32)
unfolding Sign high
multiplied x y (inl p) (inl q) =
    let b : x * y ≤ 2 ^ 62 = mul-le-mul {n₂ = 2 ^ 31} {m₂ = 2 ^ 31} (omega arith) (omega arith) in
    ap₂ (λ (a b : ℕ). value 32 (high a b)) p.wide q.wide
    ∙ ap (λ (n : ℕ). value 32 (n / 2 ^ 32)) (mod-eq_of_lt {n = x * y} {m = 2 ^ 64} (omega arith))
    ∙ value-positive 32 (x * y / 2 ^ 32) (omega arith)
    ∙ sym (ap₂ (λ u v. shr_z (u *ℤ v) (2 ^ 32)) p.is q.is)
multiplied x y (inl p) (inr q) =
    ap₂ (λ (a b : ℕ). value 32 (high a b)) p.wide q.wide
    ∙ opposite x (suc (2 ^ 32 - suc y)) p.below q.below
    ∙ sym (ap₂ (λ u v. shr_z (u *ℤ v) (2 ^ 32)) p.is q.is)
multiplied x y (inr p) (inl q) =
    ap₂ (λ (a b : ℕ). value 32 (high a b)) p.wide q.wide
    ∙ ap (λ (n : ℕ). value 32 (n % 2 ^ 64 / 2 ^ 32)) (mul_comm (2 ^ 64 - suc (2 ^ 32 - suc x)) y)
    ∙ opposite y (suc (2 ^ 32 - suc x)) q.below p.below
    ∙ ap (λ (n : ℕ). shr_z (neg_ℤ (pos n)) (2 ^ 32)) (mul_comm y (suc (2 ^ 32 - suc x)))
    ∙ sym (ap₂ (λ u v. shr_z (u *ℤ v) (2 ^ 32)) p.is q.is)
multiplied x y (inr p) (inr q) =
    let a : ℕ = suc (2 ^ 32 - suc x) in
    let b : ℕ = suc (2 ^ 32 - suc y) in
    let h : a * b ≤ 2 ^ 62 = mul-le-mul p.below q.below in
    ap₂ (λ (m n : ℕ). value 32 (high m n)) p.wide q.wide
    ∙ ap (λ (n : ℕ). value 32 (n / 2 ^ 32)) (complements (2 ^ 64) a b (omega (arith, p.below)) (omega (arith, q.below)) ∙ mod-eq_of_lt {n = a * b} {m = 2 ^ 64} (omega arith))
    ∙ value-positive 32 (a * b / 2 ^ 32) (omega arith)
    ∙ sym (ap₂ (λ u v. shr_z (u *ℤ v) (2 ^ 32)) p.is q.is)

pub mulhi-signed : MulhiIsSigned
unfolding high
mulhi-signed x y hx hy = multiplied x y (sign x hx) (sign y hy)
