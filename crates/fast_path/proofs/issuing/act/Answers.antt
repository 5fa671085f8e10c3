-- `issuing::act` meets its contract: a jump by what it comes to.
use Rattle.fast_path.proofs.issuing.act.Goals as goal

pub returns-in-Jump : goal.returns-in-Jump
returns-in-Jump c enabled turns = rw c.in-Jump.is (c.jump.ensures enabled turns)
