-- `reading::take_registers` meets its contract.
use Rattle.image.proofs.Rooms.{registers-read}
use Rattle.image.proofs.reading.take_registers.Goals as goal

pub returns : goal.returns
returns c = registers-read c.args.shape c.args.image.now c.requires.1 c.take_bodies.ensures c.take_bodies-2.ensures
