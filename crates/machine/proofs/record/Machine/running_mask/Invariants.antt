-- `running_mask` meets its contract.
use Rattle.std.proofs.Common.{◌≡◌}
use Rattle.machine.specs.Scheduler.{runs}
use Rattle.machine.specs.Search.{mask_of}
use Rattle.machine.proofs.Loops.{from}
use Rattle.machine.proofs.record.Machine.running_mask.Given as goal

abbrev pub invariant-loop-thread : goal.invariant-loop-thread
invariant-loop-thread l = l.mask ≡ mask_of (runs l.fn.self) (from 0 l.thread)
