-- `entries::entries_in` meets its contract.
use Prim.Native.Nat.{◌+◌, ◌*◌}
use mathlib.Core.Bool.{true}
use mathlib.Core.List.{[], ◌∷◌}
use mathlib.Core.Path.{◌≡◌}
use Rattle.image_layout.specs.Join.{concat_below, all_below, Grown}
use Rattle.image.specs.Image.{is_entry, entry_or}
use Rattle.image.proofs.RecordIn.{entry_at}
use Rattle.image.proofs.entries.entries_in.Given as goal

abbrev pub invariant-loop-thread : goal.invariant-loop-thread
invariant-loop-thread l = (l.at ≡ l.initial.at + l.size * l.thread-index) × (all_below l.thread-index (λ k. is_entry (entry_at l.shape.form l.image (l.initial.at + l.size * k))) ≡ true) × Grown l.initial.thread-items l.thread-items 0 l.thread-index (concat_below l.thread-index (λ k. entry_or (entry_at l.shape.form l.image (l.initial.at + l.size * k)) ∷ []))
