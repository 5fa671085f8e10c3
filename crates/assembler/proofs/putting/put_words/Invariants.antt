-- `put_words` meets its contract.
use Rattle.assembler.proofs.Texts.{texts_at}
use Rattle.assembler.specs.Source.{line_in, lines_of, words_from}
use Rattle.expression.specs.Labels.{addresses}
use lib.ListN.{length, take, drop}
use mathlib.Core.Path.{◌≡◌}
use Prim.Native.Nat.{◌+◌, ◌-◌, ◌*◌, ◌≤◌}
use mathlib.Core.List.{◌++◌, map}
use Rattle.assembler.proofs.putting.put_words.Given as goal

abbrev pub invariant-loop-start : goal.invariant-loop-start
invariant-loop-start l = (words_from (addresses l.labels) 0 (lines_of l.source) ≡ take l.k l.words ++ words_from (addresses l.labels) (4 * l.before) (map line_in (texts_at l.source l.start))) × (drop l.k l.words ≡ drop l.k l.initial.words) × (l.k ≤ length l.words) × (length l.words ≡ length l.initial.words) × (l.k ≤ l.before) × (l.before ≤ l.start) × (l.start ≤ length l.source + 1)

abbrev pub decreases-loop-start : goal.decreases-loop-start
decreases-loop-start l = length l.source + 1 - l.start
