-- `reading::take_memory` meets its contract.
use Prim.Native.Nat.{◌+◌, ◌*◌}
use mathlib.Core.Path.{◌≡◌}
use lib.ListN.{take, drop}
use Rattle.image_layout.specs.Join.{concat_below, Grown}
use Rattle.image.proofs.reading.take_memory.Given as goal

abbrev pub invariant-loop-i : goal.invariant-loop-i
invariant-loop-i l = (l.at ≡ l.initial.at + l.size * l.i) × (l.next ≡ 64 * l.i) × Grown l.initial.memory l.memory 0 l.next (concat_below l.i (λ k. take 64 (drop (l.initial.at + l.size * k) l.image)))
