-- Laws of the place of an access.
use mathlib.Core.Path.{◌≡◌, refl, sym, ap, ◌∙◌}
use mathlib.Core.List.{List}
use mathlib.Core.Bool.{Bool, true, false, cond, ◌&&◌}
use Prim.Native.Nat.{ℕ, ◌+◌, ◌-◌, ◌%◌, ◌^◌, ◌≤◌, ◌<◌}
use native.Mathlib.Omega.{arith}
use lib.Dec.{eqb, leb}
use lib.ListN.{length}
use borrow.Author.Tests.{leb-true}
use Rattle.answer.specs.Reason.{misaligned, outside-memory}
use Rattle.memory.specs.Attempt.{Attempt, done, fault}
use Rattle.twos_complement.specs.Word.{negative}
use Rattle.memory.specs.Place.{biased, inside, place}
use Rattle.memory.specs.Operation.{scalar_place}

both : (p q : Bool) → p && q ≡ true → (p ≡ true) × (q ≡ true)
both true q e = (refl, e)
both false q e = (e, absurd (let z : ◌≡◌ {A = ℕ} 0 1 = cc in omega arith))

pub biased-lt : (base offset : ℕ) → base < 2 ^ 32 → offset < 2 ^ 32 → biased base offset < 2 ^ 34
biased-lt base offset hb ho = go (negative 32 offset)
  where
    go : (t : Bool) → base + cond t offset (2 ^ 32 + offset) < 2 ^ 34
    go true = omega arith
    go false = omega arith

module _ (size room address : ℕ) where
  pub low-enough : inside size room address ≡ true → 2 ^ 32 ≤ address
  low-enough e = leb-true (2 ^ 32) address (both (leb (2 ^ 32) address) (leb (address + size) (2 ^ 32 + room)) e).0

  high-enough : inside size room address ≡ true → address + size ≤ 2 ^ 32 + room
  high-enough e = leb-true (address + size) (2 ^ 32 + room) (both (leb (2 ^ 32) address) (leb (address + size) (2 ^ 32 + room)) e).1

module _ (alignment size room address : ℕ) where
  pub when-misaligned : eqb (address % alignment) 0 ≡ false → place alignment size room address ≡ fault misaligned
  unfolding place
  when-misaligned e = rw e

  pub when-outside : eqb (address % alignment) 0 ≡ true → inside size room address ≡ false → place alignment size room address ≡ fault outside-memory
  unfolding place
  when-outside e f = rw (e, f)

  pub when-good : eqb (address % alignment) 0 ≡ true → inside size room address ≡ true → place alignment size room address ≡ done (address - 2 ^ 32)
  unfolding place
  when-good e f = rw (e, f)

  -- a place that is given has all its bytes in memory
  pub within : {a : ℕ} → place alignment size room address ≡ done a → a + size ≤ room
  unfolding place
  within {a} = go (eqb (address % alignment) 0) (inside size room address) refl
    where
      go : (p q : Bool) → inside size room address ≡ q → cond p (cond q (done (address - 2 ^ 32)) (fault outside-memory)) (fault misaligned) ≡ done a → a + size ≤ room
      go true true e f = let g : address - 2 ^ 32 ≡ a = cc in omega (arith, low-enough size room address e, high-enough size room address e)
      go true false e f = absurd (let z : ◌≡◌ {A = ℕ} 0 1 = cc in omega arith)
      go false q e f = absurd (let z : ◌≡◌ {A = ℕ} 0 1 = cc in omega arith)

-- the place of a scalar, from what the code finds for its size
pub found : {size n : ℕ} {p : Attempt ℕ} (m : List ℕ) (base offset : ℕ)
    → size ≡ n → p ≡ place size size (length m) (biased base offset) → scalar_place n m base offset ≡ p
found m base offset e f = sym (f ∙ ap (λ (k : ℕ). place k k (length m) (biased base offset)) e)
