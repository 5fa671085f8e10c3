-- `heads::places_stand` meets its contract.
use mathlib.Core.Path.{sym}
use Rattle.image_layout.proofs.Standing.{stands-none, stands_one, stands-two}
use Rattle.image_layout.proofs.heads.places_stand.Goals as goal

pub returns-in-Nothing : goal.returns-in-Nothing
returns-in-Nothing c = rw c.in-Nothing.is (stands-none c.args.image.now c.args.at)

pub returns-in-ByThread : goal.returns-in-ByThread
returns-in-ByThread c = rw c.in-ByThread.is (sym (stands_one c.args.image.now c.args.at c.args.i))

pub returns-in-ByRegister : goal.returns-in-ByRegister
returns-in-ByRegister c = rw c.in-ByRegister.is (sym (stands-two c.args.image.now c.args.at _ _))

pub returns-in-ByBlock : goal.returns-in-ByBlock
returns-in-ByBlock c = rw c.in-ByBlock.is (sym (stands-two c.args.image.now c.args.at _ _))
