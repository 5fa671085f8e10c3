-- `execute::word` meets its contract: what a word is read as is in its ranges.
use Rattle.std.proofs.Common.{sym, ap, ◌∙◌, rules}
use Rattle.isa.proofs.Ranges.{in-range}
use Rattle.isa.specs.Answer.{reading}
use Rattle.isa.specs.Claims.{InRange}
use Rattle.execution.proofs.execute.word.Goals as goal

pub instruction-requires : goal.instruction-requires
unfolding InRange
instruction-requires c = (search rules, search rules, search rules, in-range _ _ (sym c.read_word.ensures ∙ ap reading c.in-Ok.is))
