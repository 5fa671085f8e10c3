-- `fill` meets its contract: what is stored and what is left to store are the whole.
use Prim.Native.Nat.{◌-◌}
use mathlib.Core.Path.{◌≡◌}
use lib.ListN.{replicate}
use Rattle.intel_hex.specs.Storing.{store_all}
use Rattle.intel_hex.proofs.storing.fill.Given as goal

abbrev pub invariant-loop-a : goal.invariant-loop-a
invariant-loop-a l = store_all l.initial.words l.from (replicate (l.to - l.from) 0) ≡ store_all l.words l.a (replicate (l.to - l.a) 0)
