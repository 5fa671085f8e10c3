-- `fill_labels` meets its contract.
use Rattle.assembler.proofs.Texts.{texts_at}
use Rattle.assembler.specs.Walk.{entries}
use Rattle.assembler.specs.Source.{line_in, lines_of, labels_from, labels_of, count}
use lib.ListN.{length, take}
use mathlib.Core.Path.{◌≡◌}
use Prim.Native.Nat.{◌+◌, ◌-◌, ◌*◌, ◌≤◌}
use mathlib.Core.List.{◌++◌, map}
use Rattle.assembler.proofs.labels.fill_labels.Given as goal

abbrev pub invariant-loop-start : goal.invariant-loop-start
invariant-loop-start l = (labels_of (lines_of l.source) ≡ entries l.source (take (2 * l.n) l.table) ++ labels_from (4 * l.words) (map line_in (texts_at l.source l.start))) × (count (lines_of l.source) ≡ l.words + count (map line_in (texts_at l.source l.start))) × (3 * l.n ≤ l.start) × (l.words ≤ l.start) × (l.start ≤ length l.source + 1) × (length l.table ≡ 43692)

abbrev pub decreases-loop-start : goal.decreases-loop-start
decreases-loop-start l = length l.source + 1 - l.start
