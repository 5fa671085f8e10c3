-- `started` meets its contract.
use Rattle.std.proofs.Common.{◌≡◌, replicate}
use Rattle.thread_entry.specs.Entry.{zero_thread}
use Rattle.machine.specs.Machine.{start_status}
use Rattle.machine.proofs.Loops.{changed, restating}
use Rattle.run_record.proofs.starting.started.Given as goal

abbrev pub invariant-loop-t : goal.invariant-loop-t
invariant-loop-t l = l.entry-items ≡ changed (restating (start_status l.mask)) (replicate 8 zero_thread) l.t
