-- `others` meets its contract.
use Rattle.machine.proofs.Loops.{Searching, Counting}
use Rattle.machine.proofs.Meetings.{other_waits, disputes}
use Rattle.machine.proofs.record.Machine.others.Given as goal

abbrev pub invariant-loop-t : goal.invariant-loop-t
invariant-loop-t l = Searching (disputes l.fn.self l.thread l.id l.count) l.t × Counting (other_waits l.fn.self l.thread l.id) l.t l.n
