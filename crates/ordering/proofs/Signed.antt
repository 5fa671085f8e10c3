-- The signed compares are those of the signed whole numbers.
use Rattle.std.proofs.Common.{◌≡◌, ℕ, suc, ◌+◌, ◌-◌, ◌^◌, ◌<◌, ◌≤◌, Bool, true, false, ltb, leb, sym, refl, ◌∙◌, ap₂, inl, inr, arith, le-leb, leb-false, leb-true}
use lib.Signed.{lt_z, le_z}
use borrow.Author.Tests.{lt-leb}
use Rattle.twos_complement.specs.Word.{rank, value}
use Rattle.ordering.specs.Claims.{SignedOrder}
use Rattle.twos_complement.proofs.Sign.{Sign, sign}

same : (a b x y : ℕ) → (x ≤ y → a ≤ b) → (y < x → b < a) → leb a b ≡ leb x y
same a b x y f g = go (leb x y) refl
  where
    go : (t : Bool) → leb x y ≡ t → leb a b ≡ t
    go true e = le-leb a b (f (leb-true x y e))
    go false e = lt-leb a b (g (leb-false x y e))

mirrored-le : (m n : ℕ) → m < 2 ^ 31 → n < 2 ^ 31 → leb (2 ^ 31 - suc m) (2 ^ 31 - suc n) ≡ leb n m
mirrored-le m n hm hn = same (2 ^ 31 - suc m) (2 ^ 31 - suc n) n m (λ h. omega arith) (λ h. omega arith)

mirrored-lt : (m n : ℕ) → m < 2 ^ 31 → n < 2 ^ 31 → ltb (2 ^ 31 - suc m) (2 ^ 31 - suc n) ≡ ltb n m
mirrored-lt m n hm hn = same (suc (2 ^ 31 - suc m)) (2 ^ 31 - suc n) (suc n) m (λ h. omega arith) (λ h. omega arith)

ranks-le : (x y : ℕ) → Sign x → Sign y → leb (rank x) (rank y) ≡ le_z (value 32 x) (value 32 y)
unfolding Sign
ranks-le x y (inl p) (inl q) = ap₂ leb p.place q.place ∙ same (x + 2 ^ 31) (y + 2 ^ 31) x y (λ h. omega arith) (λ h. omega arith) ∙ sym (ap₂ le_z p.is q.is)
ranks-le x y (inl p) (inr q) = ap₂ leb p.place q.place ∙ lt-leb (x + 2 ^ 31) (2 ^ 31 - suc (2 ^ 32 - suc y)) (omega arith) ∙ sym (ap₂ le_z p.is q.is)
ranks-le x y (inr p) (inl q) = ap₂ leb p.place q.place ∙ le-leb (2 ^ 31 - suc (2 ^ 32 - suc x)) (y + 2 ^ 31) (omega arith) ∙ sym (ap₂ le_z p.is q.is)
ranks-le x y (inr p) (inr q) =
    ap₂ leb p.place q.place ∙ mirrored-le _ _ p.below q.below ∙ sym (ap₂ le_z p.is q.is)

ranks-lt : (x y : ℕ) → Sign x → Sign y → ltb (rank x) (rank y) ≡ lt_z (value 32 x) (value 32 y)
unfolding Sign
ranks-lt x y (inl p) (inl q) = ap₂ ltb p.place q.place ∙ same (suc (x + 2 ^ 31)) (y + 2 ^ 31) (suc x) y (λ h. omega arith) (λ h. omega arith) ∙ sym (ap₂ lt_z p.is q.is)
ranks-lt x y (inl p) (inr q) = ap₂ ltb p.place q.place ∙ lt-leb (suc (x + 2 ^ 31)) (2 ^ 31 - suc (2 ^ 32 - suc y)) (omega arith) ∙ sym (ap₂ lt_z p.is q.is)
ranks-lt x y (inr p) (inl q) = ap₂ ltb p.place q.place ∙ le-leb (suc (2 ^ 31 - suc (2 ^ 32 - suc x))) (y + 2 ^ 31) (omega arith) ∙ sym (ap₂ lt_z p.is q.is)
ranks-lt x y (inr p) (inr q) =
    ap₂ ltb p.place q.place ∙ mirrored-lt _ _ p.below q.below ∙ sym (ap₂ lt_z p.is q.is)

pub signed-order : SignedOrder
signed-order x y hx hy =
    let sx = sign x hx in
    let sy = sign y hy in
    record { gt = ranks-lt y x sy sx; ge = ranks-le y x sy sx; lt = ranks-lt x y sx sy; le = ranks-le x y sx sy }
