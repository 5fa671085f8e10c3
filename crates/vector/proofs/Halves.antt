-- Lanes filled by one half of the operations are filled by the operation, where it is of that half.
use mathlib.Core.Path.{◌≡◌, ap}
use mathlib.Core.Bool.{Bool, true, false, cond}
use mathlib.Core.List.{List}
use Prim.Native.Nat.{ℕ}
use Rattle.isa.specs.declared.instruction.BinaryOp.{BinaryOp}
use Rattle.isa.specs.declared.instruction.UnaryOp.{UnaryOp}
use Rattle.alu.specs.Binary.{binary, is_float, integer, arithmetic}
use Rattle.alu.specs.Unary.{unary, is_conversion, integer_unary, conversion}
use Rattle.vector.specs.Lanes.{tab, lane, binary_lanes, unary_lanes}

module _ (op : BinaryOp) (x y : List ℕ) where
  pub integers : is_float op ≡ false → tab 16 (λ j. integer op (lane x j) (lane y j)) ≡ binary_lanes op x y
  unfolding binary_lanes
  integers h = ap (λ (t : Bool). tab 16 (λ j. cond t 0 (binary op (lane x j) (lane y j)))) h

  pub floats : is_float op ≡ true → tab 16 (λ j. arithmetic op (lane x j) (lane y j)) ≡ binary_lanes op x y
  unfolding binary_lanes
  floats h = ap (λ (t : Bool). tab 16 (λ j. cond t (binary op (lane x j) (lane y j)) 0)) h

module _ (op : UnaryOp) (x : List ℕ) where
  pub integers-unary : is_conversion op ≡ false → tab 16 (λ j. integer_unary op (lane x j)) ≡ unary_lanes op x
  unfolding unary_lanes
  integers-unary h = ap (λ (t : Bool). tab 16 (λ j. cond t 0 (unary op (lane x j)))) h

  pub conversions : is_conversion op ≡ true → tab 16 (λ j. conversion op (lane x j)) ≡ unary_lanes op x
  unfolding unary_lanes
  conversions h = ap (λ (t : Bool). tab 16 (λ j. cond t (unary op (lane x j)) 0)) h
