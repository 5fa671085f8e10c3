use Rattle.std.proofs.Common.{◌≡◌, length}
use Rattle.expression.specs.Label.{address_in}
use Rattle.expression.proofs.word.value_of_label.Given as goal

abbrev pub invariant-loop-rest : goal.invariant-loop-rest
invariant-loop-rest l = address_in l.labels.source.now l.rest l.word ≡ address_in l.labels.source.now l.labels.table.now l.word

abbrev pub decreases-loop-rest : goal.decreases-loop-rest
decreases-loop-rest l = length l.rest
