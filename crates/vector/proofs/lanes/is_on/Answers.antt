-- `lanes::is_on` meets its contract.
use Prim.Native.Nat.{ℕ, ◌^◌, ◌<◌, ◌≤◌}
use mathlib.Core.Bool.{false}
use mathlib.Core.Path.{◌≡◌, sym, ◌∙◌}
use native.Mathlib.Nat.{div-eq_of_lt}
use native.Mathlib.Omega.{arith}
use borrow.Author.Rules.{rules}
use borrow.Author.Tests.{le-ltb}
use lib.Pow.{pow_mono}
use Rattle.vector.specs.Lanes.{is_on}
use Rattle.vector.proofs.lanes.is_on.Goals as goal

-- a mask has no bit past the 32nd
no-bit : (mask j : ℕ) → mask < 2 ^ 32 → 32 ≤ j → is_on mask j ≡ false
no-bit mask j h l = rw (div-eq_of_lt {n = mask} {m = 2 ^ j} (let p : mask < 2 ^ j = omega (arith, pow_mono {i = 32} {j = j} l) in p))

pub returns-else-j-lt32 : goal.returns-else-j-lt32
returns-else-j-lt32 c =
    le-ltb c.args.j 32 c.if-j-lt32.false
    ∙ sym (no-bit c.args.mask c.args.j (search rules) c.if-j-lt32.false)
