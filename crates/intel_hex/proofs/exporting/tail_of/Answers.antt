-- `tail_of` meets its contract, digit by digit.
use Rattle.std.specs.Prelude.{◌-◌, ◌%◌}
use native.Mathlib.Nat.{mod-eq_of_lt}
use Rattle.intel_hex.specs.Digits.{hexes}
use native.Mathlib.Omega.{arith}
use Rattle.intel_hex.proofs.HighDigit.{high-digit}
use Rattle.intel_hex.proofs.exporting.tail_of.Goals as goal

pub returns : goal.returns
unfolding hexes
returns c =
    rw (c.digit_of-2.ensures, c.digit_of.ensures, high-digit ((256 - c.args.sum) % 256) (omega arith), mod-eq_of_lt c.requires)
