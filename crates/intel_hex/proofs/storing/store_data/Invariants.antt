-- `store_data` meets its contract: what is stored and what is left to store are the whole.
use Prim.Native.Nat.{◌+◌, ◌-◌}
use mathlib.Core.Path.{◌≡◌}
use Rattle.intel_hex.specs.Storing.{store_all, pair_bytes}
use Rattle.intel_hex.proofs.storing.store_data.Given as goal

abbrev pub invariant-loop-i : goal.invariant-loop-i
invariant-loop-i l = store_all l.initial.words l.from (pair_bytes l.digits 4 l.n) ≡ store_all l.words (l.from + l.i) (pair_bytes l.digits (4 + l.i) (l.n - l.i))
