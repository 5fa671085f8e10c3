-- Words as signed numbers.
use Rattle.std.proofs.Common.{◌≡◌, ℕ, ◌+◌, ◌-◌, ◌%◌, ◌^◌, ◌<◌, Bool, true, false, cond, refl, arith, leb-false, leb-true}
use Rattle.twos_complement.specs.Word.{negative, rank}

-- the wrapping sum puts the negative words first
pub rank_is : (x : ℕ) → x < 2 ^ 32 → (x + 2 ^ 31) % 2 ^ 32 ≡ rank x
rank_is x h = go (negative 32 x) refl
  where
    go : (t : Bool) → negative 32 x ≡ t → (x + 2 ^ 31) % 2 ^ 32 ≡ cond t (x - 2 ^ 31) (x + 2 ^ 31)
    go true e = omega (arith, leb-true (2 ^ 31) x e)
    go false e = omega (arith, leb-false (2 ^ 31) x e)
