-- `r_allows` meets its contract: the three tests are those of the rule.
use Rattle.isa.proofs.Sets.{r-agrees}
use Rattle.isa.proofs.rule.r_allows.Goals as goal

pub returns : goal.returns
returns c =
    let a = c.args in
    rw (c.is_in.ensures, c.r_set.ensures, r-agrees a.op a.flags, c.is_destination.ensures, c.operand_b.ensures)
