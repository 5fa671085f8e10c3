-- Laws of products of words.
use Rattle.std.proofs.Common.{◌≡◌, ℕ, ◌+◌, ◌-◌, ◌*◌, ◌/◌, ◌%◌, ◌^◌, ◌<◌, Bool, true, false, cond, sym, ap, ◌∙◌, ap₂, lt_of_le_of_lt, add-zero, le_of_lt, add_assoc, mul_assoc, mul_comm, add-mul, mul-le-mul_left, mul-lt-mul_of_pos_right, mul-add, arith, pow_pos}
use native.Mathlib.Nat.{add-mul-mod_self_right, add-mul-div_right}
use lib.Pow.{field}
use Rattle.isa.specs.declared.instruction.BinaryOp.TheVariants.{Sub, Mulhi}
use Rattle.twos_complement.specs.Word.{negative}
use Rattle.alu.specs.Binary.{binary}

-- the product of two words has 64 bits
pub product : {x y : ℕ} → x < 2 ^ 32 → y < 2 ^ 32 → x * y < 2 ^ 64
product {x} {y} hx hy = lt_of_le_of_lt (mul-le-mul_left x (le_of_lt hy)) (mul-lt-mul_of_pos_right hx (pow_pos 32))

spread : (x y s t m : ℕ) → (x + s * m) * (y + t * m) ≡ x * y + (x * t + s * y + s * (t * m)) * m
spread x y s t m =
    mul-add (x + s * m) y (t * m)
    ∙ ap₂ (λ (a b : ℕ). a + b) (add-mul x (s * m) y) (add-mul x (s * m) (t * m))
    ∙ ap₂ (λ (a b : ℕ). (x * y + a) + (b + s * m * (t * m))) (mul_assoc s m y ∙ ap (λ (a : ℕ). s * a) (mul_comm m y) ∙ sym (mul_assoc s y m)) (sym (mul_assoc x t m))
    ∙ ap (λ (a : ℕ). (x * y + s * y * m) + (x * t * m + a)) (mul_assoc s m (t * m) ∙ ap (λ (a : ℕ). s * a) (mul_comm m (t * m)) ∙ sym (mul_assoc s (t * m) m))
    ∙ simp add-mul (omega arith)

high_part : (n k : ℕ) → (n + k * 2 ^ 32) % 2 ^ 64 / 2 ^ 32 ≡ (n / 2 ^ 32 + k) % 2 ^ 32
high_part n k = field (n + k * 2 ^ 32) 32 32 ∙ ap (λ (m : ℕ). m % 2 ^ 32) (add-mul-div_right n k (pow_pos 32))

-- the high half of a product of operands that have s and t above their 32 bits
high : (x y s t : ℕ)
    → (x + s * 2 ^ 32) * (y + t * 2 ^ 32) % 2 ^ 64 / 2 ^ 32 ≡ (x * y / 2 ^ 32 + (x * t + s * y)) % 2 ^ 32
high x y s t =
    ap (λ (n : ℕ). n % 2 ^ 64 / 2 ^ 32) (spread x y s t (2 ^ 32))
    ∙ high_part (x * y) (x * t + s * y + s * (t * 2 ^ 32))
    ∙ ap (λ (n : ℕ). n % 2 ^ 32) (sym (add_assoc (x * y / 2 ^ 32) (x * t + s * y) (s * (t * 2 ^ 32))) ∙ ap (λ (n : ℕ). x * y / 2 ^ 32 + (x * t + s * y) + n) (sym (mul_assoc s t (2 ^ 32))))
    ∙ add-mul-mod_self_right (x * y / 2 ^ 32 + (x * t + s * y)) (s * t) (2 ^ 32)

-- the signed high half from the unsigned one: each negative operand takes the other off
by_sign : (x y : ℕ) (p q : Bool) → x < 2 ^ 32 → y < 2 ^ 32
    → cond p (x + (2 ^ 64 - 2 ^ 32)) x * cond q (y + (2 ^ 64 - 2 ^ 32)) y % 2 ^ 64 / 2 ^ 32
    ≡ binary Sub (binary Sub (x * y / 2 ^ 32) (cond p y 0)) (cond q x 0)
by_sign x y false false hx hy = omega (arith, product hx hy)
by_sign x y false true hx hy = ap (λ (n : ℕ). n * (y + (2 ^ 64 - 2 ^ 32)) % 2 ^ 64 / 2 ^ 32) (sym (add-zero x)) ∙ high x y 0 (2 ^ 32 - 1) ∙ omega arith
by_sign x y true false hx hy = ap (λ (n : ℕ). (x + (2 ^ 64 - 2 ^ 32)) * n % 2 ^ 64 / 2 ^ 32) (sym (add-zero y)) ∙ high x y (2 ^ 32 - 1) 0 ∙ omega arith
by_sign x y true true hx hy = high x y (2 ^ 32 - 1) (2 ^ 32 - 1) ∙ omega arith

pub mulhi-is : (x y : ℕ) → x < 2 ^ 32 → y < 2 ^ 32
    → binary Mulhi x y ≡ binary Sub (binary Sub (x * y / 2 ^ 32) (cond (negative 32 x) y 0)) (cond (negative 32 y) x 0)
mulhi-is x y hx hy = by_sign x y (negative 32 x) (negative 32 y) hx hy
