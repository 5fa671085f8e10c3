-- A word by its sign, and the whole number that it stands for.
use mathlib.Core.Path.{◌≡◌, refl, ap, ◌∙◌}
use mathlib.Core.Logic.{◌⊎◌, inl, inr}
use mathlib.Core.Bool.{Bool, true, false}
use Prim.Native.Nat.{ℕ, suc, ◌+◌, ◌-◌, ◌^◌, ◌≤◌, ◌<◌}
use native.Mathlib.Omega.{arith}
use lib.Dec.{leb}
use lib.IntN.{pos, negsuc}
use borrow.Author.Tests.{leb-true, leb-false, le-leb, lt-leb, lt-ltb}
use Rattle.word_layout.specs.Layout.{extended}
use Rattle.twos_complement.specs.Word.{rank, value}

-- what a number of `bits` bits stands for, by its sign
pub value-positive : (bits x : ℕ) → x < 2 ^ (bits - 1) → value bits x ≡ pos x
value-positive bits x h = rw (lt-leb (2 ^ (bits - 1)) x h)

pub value-negative : (bits x : ℕ) → 2 ^ (bits - 1) ≤ x → x < 2 ^ bits → value bits x ≡ negsuc (2 ^ bits - suc x)
value-negative bits x h l = rw (le-leb (2 ^ (bits - 1)) x h, lt-ltb x (2 ^ bits) l)

-- the word of a negative number
pub value-below : (n : ℕ) → n < 2 ^ 31 → value 32 (2 ^ 32 - 1 - n) ≡ negsuc n
value-below n h = value-negative 32 (2 ^ 32 - 1 - n) (omega arith) (omega arith) ∙ ap negsuc (omega arith)

-- a word by its sign: a negative one is that of -(n + 1)
pub record Positive (x : ℕ) : Type 0 where
  pub below : x < 2 ^ 31
  pub is : value 32 x ≡ pos x
  pub wide : extended 64 (2 ^ 31) x ≡ x
  pub place : rank x ≡ x + 2 ^ 31

pub record Negative (x n : ℕ) : Type 0 where
  pub word : x ≡ 2 ^ 32 - 1 - n
  pub below : n < 2 ^ 31
  pub is : value 32 x ≡ negsuc n
  pub wide : extended 64 (2 ^ 31) x ≡ 2 ^ 64 - suc n
  pub place : rank x ≡ 2 ^ 31 - suc n

unfoldable pub Sign : ℕ → Type 0
Sign x = Positive x ⊎ Negative x (2 ^ 32 - suc x)

pub sign : (x : ℕ) → x < 2 ^ 32 → Sign x
unfolding Sign
sign x l = go (leb (2 ^ 31) x) refl
  where
    go : (t : Bool) → leb (2 ^ 31) x ≡ t → Sign x
    go false e =
        let h : x < 2 ^ 31 = leb-false (2 ^ 31) x e in
        inl (record { below = h; is = value-positive 32 x h; wide = rw e; place = rw e })
    go true e =
        let h : 2 ^ 31 ≤ x = leb-true (2 ^ 31) x e in
        inr (record { word = omega arith; below = omega arith; is = value-negative 32 x h l; wide = rw e (omega arith); place = rw e (omega arith) })
