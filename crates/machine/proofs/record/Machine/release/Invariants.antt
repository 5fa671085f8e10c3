-- `release` meets its contract.
use Rattle.std.proofs.Common.{◌≡◌, ◌++◌, map, take, drop}
use Rattle.machine.proofs.Meetings.{freed}
use Rattle.machine.proofs.record.Machine.release.Given as goal

abbrev pub invariant-loop-entry : goal.invariant-loop-entry
invariant-loop-entry l = l.entry-items ≡ map (freed l.id) (take l.entry-index l.fn.self.threads) ++ drop l.entry-index l.fn.self.threads
