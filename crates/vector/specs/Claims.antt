-- What is proved of the definitions.
use Rattle.std.specs.Prelude.{ℕ, ◌<◌, ◌≡◌, List, length}
use Rattle.isa.specs.declared.instruction.BinaryOp.{BinaryOp}
use Rattle.isa.specs.declared.instruction.UnaryOp.{UnaryOp}
use Rattle.vector.specs.Lanes.{tab, lane, binary_lanes, unary_lanes, shuffled, blended, splatted}

-- a list given place by place has that many places,
abbrev pub TabLength : Type 0
TabLength = (n : ℕ) (f : ℕ → ℕ) → length (tab n f) ≡ n

-- and holds at each what is given for it
abbrev pub TabLane : Type 0
TabLane = (n j : ℕ) (f : ℕ → ℕ) → j < n → lane (tab n f) j ≡ f j

-- the results on lanes are sixteen lanes
pub record SixteenLanes : Type 0 where
  pub of-binary : (op : BinaryOp) (x y : List ℕ) → length (binary_lanes op x y) ≡ 16
  pub of-unary : (op : UnaryOp) (x : List ℕ) → length (unary_lanes op x) ≡ 16
  pub of-shuffle : (x y : List ℕ) → length (shuffled x y) ≡ 16
  pub of-blend : (mask : ℕ) (new old : List ℕ) → length (blended mask new old) ≡ 16
  pub of-splat : (x : ℕ) → length (splatted x) ≡ 16
