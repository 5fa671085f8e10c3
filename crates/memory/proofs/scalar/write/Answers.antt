-- `scalar::write` meets its contract: in each arm the operation is known.
use Rattle.memory.proofs.scalar.write.Goals as goal

pub write8-requires : goal.write8-requires
write8-requires c = rw c.in-Store8.is at c.requires

pub write16-requires : goal.write16-requires
write16-requires c = rw c.in-Store16.is at c.requires

pub write32-requires : goal.write32-requires
write32-requires c = rw c.in-Store32.is at c.requires

pub returns-in-Store8 : goal.returns-in-Store8
returns-in-Store8 c = rw c.in-Store8.is c.write8.ensures

pub returns-in-Store16 : goal.returns-in-Store16
returns-in-Store16 c = rw c.in-Store16.is c.write16.ensures

pub returns-in-Store32 : goal.returns-in-Store32
returns-in-Store32 c = rw c.in-Store32.is c.write32.ensures
