-- `well_formed_within` meets its contract.
use Rattle.std.proofs.Common.{◌≡◌, ◌-◌}
use Rattle.machine.specs.WellFormed.{well_formed_within}
use Rattle.machine.specs.Search.{all}
use Rattle.well_formedness.proofs.Entries.{in_order}
use Rattle.machine.proofs.Loops.{from}
use Rattle.well_formedness.proofs.record.well_formed_within.Given as goal

abbrev pub invariant-loop-thread : goal.invariant-loop-thread
invariant-loop-thread l = well_formed_within l.limits l.machine ≡ all (in_order l.limits l.machine) (from l.thread (8 - l.thread))
