-- `digits_heading` meets its contract: too few digits, and those of which the sum is known.
use Rattle.intel_hex.proofs.Fields.{few}
use Rattle.intel_hex.proofs.record.digits_heading.Goals as goal

pub returns-then-digits-lt10 : goal.returns-then-digits-lt10
returns-then-digits-lt10 c = few c.args.digits.now c.if-digits-lt10.true
