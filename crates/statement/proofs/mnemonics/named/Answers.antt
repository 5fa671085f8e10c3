-- `named` meets its contract: the rows' own names first, and then those of I.
use Rattle.std.proofs.Common.{◌∙◌}
use Rattle.statement.proofs.Named.{listed, immediates}
use Rattle.statement.proofs.mnemonics.named.Goals as goal

pub returns-in-Some : goal.returns-in-Some
returns-in-Some c = listed c.args.word.now c.in-Some.i c.in-Some.ensures

pub returns : goal.returns
returns c = c.first_named-2.ensures ∙ immediates c.args.word.now c.in_default.ensures
