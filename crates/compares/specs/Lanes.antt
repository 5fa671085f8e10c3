-- A compare of sixteen lanes (document 01, "The words").
use Rattle.std.specs.Prelude.{ℕ, zero, suc, ◌+◌, ◌^◌, Bool, cond, ◌&&◌, List}
use Rattle.ordering.specs.Compare.{compare}
use Rattle.vector.specs.Lanes.{lane, is_on}
use Rattle.isa.specs.declared.instruction.CompareOp.{CompareOp}

-- the number of n bits whose bit j is 1 exactly where f j holds
unfoldable pub mask_below : ℕ → (ℕ → Bool) → ℕ
mask_below zero f = 0
mask_below (suc n) f = mask_below n f + cond (f n) (2 ^ n) 0

-- "give a bit per lane, 0 for lanes that are off and for bits 16-31"
unfoldable pub compare_lanes : CompareOp → ℕ → List ℕ → List ℕ → ℕ
compare_lanes op mask x y = mask_below 16 (λ j. is_on mask j && compare op (lane x j) (lane y j))
