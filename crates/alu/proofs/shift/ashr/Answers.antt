-- `shift::ashr` meets its contract: the complement of a negative word is shifted.
use Rattle.std.proofs.Common.{◌%◌, sym, arith, rules, le-leb}
use Rattle.alu.proofs.Complement.{ashr-negative}
use Rattle.alu.proofs.shift.ashr.Goals as goal

pub returns-else-x-lt2147483648 : goal.returns-else-x-lt2147483648
returns-else-x-lt2147483648 c =
    rw (le-leb _ _ c.if-x-lt2147483648.false, c.wrapping_shr-else-x-lt2147483648.ensures)
    (sym (ashr-negative c.args.x (c.args.y % 32) (search rules) (omega arith)))
