-- The higher digit of a byte is below 16.
use Rattle.std.specs.Prelude.{ℕ, ◌/◌, ◌%◌, ◌<◌, ◌≡◌}
use native.Mathlib.Omega.{arith}

pub high-digit : (b : ℕ) → b < 256 → b / 16 % 16 ≡ b / 16
high-digit b l = omega (arith, l)
