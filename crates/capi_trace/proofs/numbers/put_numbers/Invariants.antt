-- After k numbers the first k are put.
use mathlib.Core.Path.{◌≡◌}
use lib.ListN.{take}
use Rattle.capi_trace.specs.Numbers.{put_all}
use Rattle.capi_trace.proofs.numbers.put_numbers.Given as goal

abbrev pub invariant-loop-i : goal.invariant-loop-i
invariant-loop-i l = l.numbers ≡ put_all l.initial.numbers l.place (take l.i l.fn.row)
