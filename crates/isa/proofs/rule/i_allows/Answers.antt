-- `i_allows` meets its contract: the two tests are those of the rule.
use Rattle.isa.proofs.Sets.{i-agrees}
use Rattle.isa.proofs.rule.i_allows.Goals as goal

pub returns : goal.returns
returns c =
    let a = c.args in
    rw (c.is_in.ensures, c.i_set.ensures, i-agrees a.op a.flags, c.is_destination.ensures)
