-- `reading::take_bodies` meets its contract.
use Prim.Native.Nat.{◌+◌, ◌*◌}
use mathlib.Core.Path.{◌≡◌}
use lib.ListN.{drop}
use Rattle.image_layout.specs.Join.{concat_below, Grown}
use Rattle.little_endian.specs.Numbers.{words_of}
use Rattle.image.proofs.reading.take_bodies.Given as goal

abbrev pub invariant-loop-i : goal.invariant-loop-i
invariant-loop-i l = (l.at ≡ l.initial.at + l.size * l.i) × (l.next ≡ l.from + 4 * l.n * l.i) × Grown l.initial.registers l.registers l.from l.next (concat_below l.i (λ k. words_of (4 * l.n) (drop (l.initial.at + l.size * k) l.image)))
