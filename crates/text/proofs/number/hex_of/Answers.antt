-- `hex_of` meets its contract, digit by digit.
use Rattle.text.proofs.Digits.{hex-is}
use Rattle.text.proofs.number.hex_of.Goals as goal

pub returns : goal.returns
returns c = rw (hex-is c.args.n) (cc)
