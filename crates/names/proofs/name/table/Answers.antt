-- `table` meets its contract: the rows as they are written are those of the tables.
use mathlib.Core.Path.{refl}
use Rattle.isa.specs.Text.{bytes}
use Rattle.names.specs.Rows.{rows}
use Rattle.names.proofs.name.table.Goals as goal

pub returns : goal.returns
unfolding rows bytes
returns c = refl
