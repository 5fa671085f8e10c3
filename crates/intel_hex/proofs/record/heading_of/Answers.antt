-- `heading_of` meets its contract: by whether the text begins with a colon.
use Rattle.std.proofs.Common.{◌∙◌, arith}
use Rattle.intel_hex.proofs.Fields.{no_text, no-colon, colon}
use Rattle.intel_hex.proofs.record.heading_of.Goals as goal

pub returns-in-58 : goal.returns-in-58
returns-in-58 c = c.digits_heading.ensures ∙ colon c.args.line.now c.without_cr.result.now c.without_cr.ensures (omega arith) (omega arith)

pub returns-in_default : goal.returns-in_default
returns-in_default c = no_text c.args.line.now c.without_cr.result.now c.without_cr.ensures (omega arith)

pub returns-in_default-2 : goal.returns-in_default-2
returns-in_default-2 c = no-colon c.args.line.now c.without_cr.result.now c.without_cr.ensures (λ e. omega arith)
