-- `convert::i32tof32` meets its contract: the sign's bit beside the rounded magnitude.
use native.Mathlib.Omega.{arith}
use mathlib.Core.Path.{◌∙◌, ap}
use Prim.Native.Nat.{ℕ}
use mathlib.Core.Bool.{false}
use lib.Ieee.{binary32, round}
use Rattle.float.specs.Floats.{pattern}
use Rattle.float.proofs.Rounding.{zero_is, some, with-sign}
use Rattle.float.proofs.convert.i32tof32.Goals as goal

pub returns-then-w-eq0 : goal.returns-then-w-eq0
returns-then-w-eq0 c = zero_is c.args.w c.if-w-eq0.true

pub rounded-requires : goal.rounded-requires
rounded-requires c = some c.args.w (omega arith) c.magnitude.result c.magnitude.ensures c.if-w-eq0.false

pub returns : goal.returns
returns c = with-sign c.args.w (omega arith) c.rounded.result c.if-w-eq0.false (c.rounded.ensures.0 ∙ ap (λ (n : ℕ). pattern (round binary32 false n 1)) c.magnitude.ensures)
