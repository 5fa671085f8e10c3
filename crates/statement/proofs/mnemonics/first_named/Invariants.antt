-- `first_named` meets its contract: no row passed over has the word as its name.
use Rattle.std.proofs.Common.{◌≡◌, drop}
use Rattle.std.proofs.Math.Option.{none}
use Rattle.names.specs.Rows.{rows}
use Rattle.statement.specs.Rows.{in_rows}
use Rattle.statement.proofs.mnemonics.first_named.Given as goal

abbrev pub invariant-loop-row : goal.invariant-loop-row
invariant-loop-row l = in_rows l.immediate (drop l.row-index rows) l.word none ≡ in_rows l.immediate rows l.word none
