-- The addresses of labels, as the code looks them up.
use Rattle.std.specs.Prelude.{ℕ, List}
use Rattle.std.proofs.Math.Option.{Option}
use Rattle.expression.specs.Label.{address_in}
use Rattle.expression.specs.declared.word.Labels.{Labels}

abbrev pub addresses : Labels → List ℕ → Option ℕ
addresses labels = address_in labels.source.now labels.table.now
