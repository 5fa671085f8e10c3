-- `first_refused` meets its contract.
use Rattle.assembler.proofs.Texts.{texts_at}
use Rattle.assembler.specs.Walk.{rule_of}
use Rattle.assembler.specs.Source.{first, first_from, texts_of, line_in, labels_of, count}
use Rattle.expression.specs.Labels.{addresses}
use lib.ListN.{length, take, drop}
use mathlib.Core.Path.{◌≡◌}
use Prim.Native.Nat.{◌+◌, ◌-◌, ◌≤◌}
use mathlib.Core.List.{map}
use Rattle.assembler.proofs.lines.first_refused.Given as goal

abbrev pub invariant-loop-start : goal.invariant-loop-start
invariant-loop-start l = (drop l.before (texts_of l.source) ≡ texts_at l.source l.start) × (first_from (rule_of l.pass (addresses l.labels)) (take l.before (texts_of l.source)) (drop l.before (texts_of l.source)) ≡ first (rule_of l.pass (addresses l.labels)) (texts_of l.source)) × (l.before ≤ l.start) × (l.start ≤ length l.source + 1) × (l.n ≡ length (labels_of (map line_in (take l.before (texts_of l.source))))) × (l.words ≡ count (map line_in (take l.before (texts_of l.source)))) × (l.n ≤ l.before) × (l.words ≤ l.before)

abbrev pub decreases-loop-start : goal.decreases-loop-start
decreases-loop-start l = length l.source + 1 - l.start
