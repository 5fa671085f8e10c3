-- After k rows the first k are put.
use mathlib.Core.Path.{◌≡◌}
use lib.ListN.{take}
use Rattle.capi_trace.specs.Numbers.{put_rows}
use Rattle.capi_trace.proofs.numbers.put_page.Given as goal

abbrev pub invariant-loop-i : goal.invariant-loop-i
invariant-loop-i l = l.numbers ≡ put_rows l.initial.numbers l.at (take l.i l.rows)
