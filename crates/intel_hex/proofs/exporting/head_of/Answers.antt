-- `head_of` meets its contract, digit by digit.
use Rattle.std.specs.Prelude.{◌/◌, ◌%◌}
use Rattle.intel_hex.specs.Digits.{hexes}
use native.Mathlib.Omega.{arith}
use Rattle.intel_hex.proofs.HighDigit.{high-digit}
use Rattle.intel_hex.proofs.exporting.head_of.Goals as goal

pub returns : goal.returns
unfolding hexes
returns c =
    let a = c.args in
    rw (c.digit_of-8.ensures, c.digit_of-7.ensures, c.digit_of-6.ensures, c.digit_of-5.ensures, c.digit_of-4.ensures, c.digit_of-3.ensures, c.digit_of-2.ensures, c.digit_of.ensures, high-digit a.n c.requires.0, high-digit (a.address / 256) (omega (arith, c.requires.1)), high-digit (a.address % 256) (omega arith), high-digit a.kind c.requires.2)
