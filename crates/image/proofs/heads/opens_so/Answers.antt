-- `heads::opens_so` meets its contract.
use mathlib.Core.Path.{◌∙◌}
use Rattle.image_layout.proofs.Standing.{head-within}
use Rattle.image.proofs.heads.opens_so.Goals as goal

pub returns-in-Nothing : goal.returns-in-Nothing
returns-in-Nothing c = c.head_stands.ensures ∙ head-within c.args.row c.args.i c.args.image.now c.args.at c.requires.1
