-- `fewer_agree` meets its contract.
use Rattle.machine.proofs.Loops.{Searching, Counting}
use Rattle.machine.proofs.Meetings.{disputes, waits_here}
use Rattle.well_formedness.proofs.record.fewer_agree.Given as goal

-- a search and a count at once
abbrev pub invariant-loop-t : goal.invariant-loop-t
invariant-loop-t l = Searching (disputes l.fn.machine l.thread l.id l.count) l.t × Counting (waits_here l.fn.machine l.id) l.t l.n
