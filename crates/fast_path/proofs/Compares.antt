-- The compares of whole numbers by three of them: with the operands turned, or negated.
use Rattle.std.proofs.Common.{◌≡◌, ℕ, zero, suc, ◌+◌, ◌-◌, ◌*◌, ◌^◌, ◌≤◌, Bool, true, false, cond, not, ltb, leb, List, refl, ap, ◌∙◌, pow-suc, arith, ltb-false, ltb-true, le-leb}
use borrow.Author.Tests.{lt-leb}
use lib.Bits.{bit_and}
use Rattle.compares.proofs.LaneFlags.{masked}
use Rattle.compares.specs.Lanes.{mask_below, compare_lanes}
use Rattle.compares.specs.Outcome.{answers_of}
use Rattle.ordering.specs.Compare.{compare}
use Rattle.twos_complement.specs.Word.{rank}
use Rattle.vector.specs.Lanes.{lane}
use Rattle.fast_path.specs.Types.{CompareOp, Eq, Ne, Gt, Ge, Lt, Le, Ugt, Uge, Ult, Ule}

-- the bits of two answers of which exactly one holds
one_of_two : (b : Bool) (p m n : ℕ) → m + n + 1 ≡ p → m + cond (not b) p 0 + (n + cond b p 0) + 1 ≡ 2 * p
one_of_two true p m n e = omega arith
one_of_two false p m n e = omega arith

complement : (n : ℕ) (f g : ℕ → Bool) → ((j : ℕ) → g j ≡ not (f j)) → mask_below n g + mask_below n f + 1 ≡ 2 ^ n
unfolding mask_below
complement zero f g h = refl
complement (suc n) f g h =
    ap (λ (b : Bool). mask_below n g + cond b (2 ^ n) 0 + (mask_below n f + cond (f n) (2 ^ n) 0) + 1) (h n)
    ∙ one_of_two (f n) (2 ^ n) (mask_below n g) (mask_below n f) (complement n f g h)
    ∙ omega (arith, pow-suc 2 n)

-- the answers of a compare are below 2^16
pub at_most : (op : CompareOp) (x y : List ℕ) (r : ℕ) → r ≡ answers_of op x y → r ≤ 2 ^ 16 - 1
unfolding answers_of
at_most op x y r e =
    omega (arith, e, complement 16 (λ j. compare op (lane x j) (lane y j)) (λ j. not (compare op (lane x j) (lane y j))) (λ j. refl))

not-lt : (a b : ℕ) → leb b a ≡ not (ltb a b)
not-lt a b = go (ltb a b) refl
  where
    go : (t : Bool) → ltb a b ≡ t → leb b a ≡ not t
    go true e = lt-leb b a (ltb-true a b e)
    go false e = le-leb b a (ltb-false a b e)

module _ (x y : List ℕ) where
  pub turned : answers_of Lt y x ≡ answers_of Gt x y
  unfolding answers_of
  turned = refl

  pub turned-unsigned : answers_of Ult y x ≡ answers_of Ugt x y
  unfolding answers_of
  turned-unsigned = refl

  pub not_equal : 2 ^ 16 - 1 - answers_of Eq x y ≡ answers_of Ne x y
  unfolding answers_of
  not_equal =
      omega (arith, complement 16 (λ j. compare Eq (lane x j) (lane y j)) (λ j. compare Ne (lane x j) (lane y j)) (λ j. refl))

  pub not-below : 2 ^ 16 - 1 - answers_of Lt x y ≡ answers_of Ge x y
  unfolding answers_of
  not-below =
      omega (
        arith,
        complement 16 (λ j. compare Lt (lane x j) (lane y j)) (λ j. compare Ge (lane x j) (lane y j))
            (λ j. not-lt (rank (lane x j)) (rank (lane y j))),
      )

  pub not-above : 2 ^ 16 - 1 - answers_of Lt y x ≡ answers_of Le x y
  unfolding answers_of
  not-above =
      omega (
        arith,
        complement 16 (λ j. compare Lt (lane y j) (lane x j)) (λ j. compare Le (lane x j) (lane y j))
            (λ j. not-lt (rank (lane y j)) (rank (lane x j))),
      )

  pub not-below-unsigned : 2 ^ 16 - 1 - answers_of Ult x y ≡ answers_of Uge x y
  unfolding answers_of
  not-below-unsigned =
      omega (
        arith,
        complement 16 (λ j. compare Ult (lane x j) (lane y j)) (λ j. compare Uge (lane x j) (lane y j)) (λ j. not-lt (lane x j) (lane y j)),
      )

  pub not-above-unsigned : 2 ^ 16 - 1 - answers_of Ult y x ≡ answers_of Ule x y
  unfolding answers_of
  not-above-unsigned =
      omega (
        arith,
        complement 16 (λ j. compare Ult (lane y j) (lane x j)) (λ j. compare Ule (lane x j) (lane y j)) (λ j. not-lt (lane y j) (lane x j)),
      )

-- a lane mask keeps the answers of the lanes that are on
pub masks : (op : CompareOp) (mask : ℕ) (x y : List ℕ) → bit_and (answers_of op x y) mask ≡ compare_lanes op mask x y
unfolding answers_of compare_lanes
masks op mask x y = masked 16 mask (λ j. compare op (lane x j) (lane y j))
