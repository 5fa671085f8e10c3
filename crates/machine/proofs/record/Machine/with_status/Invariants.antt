-- `with_status` meets its contract.
use Rattle.machine.proofs.Loops.{Placed}
use Rattle.machine.proofs.record.Machine.with_status.Given as goal

abbrev pub invariant-loop-t : goal.invariant-loop-t
invariant-loop-t l = Placed l.fn.self.threads l.thread l.status l.t l.entry-items
