-- The mask and the register file are allowed.
use Rattle.std.proofs.Common.{arith}
use Rattle.controller.proofs.Started.{starts}
use Rattle.controller.proofs.start.Goals as goal

pub unwrap-machine-requires : goal.unwrap-machine-requires
unwrap-machine-requires g c = starts _ _ _ (omega arith) c.start.ensures
