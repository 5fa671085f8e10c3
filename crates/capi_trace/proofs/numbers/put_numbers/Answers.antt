-- One number more, and behind the last all.
use mathlib.Core.Path.{ap, ◌∙◌}
use native.Mathlib.Numerals.{add-one}
use native.Mathlib.Omega.{arith}
use lib.Seq.{take_all}
use Rattle.capi_trace.specs.Numbers.{put_all}
use Rattle.capi_trace.proofs.Putting.{put-more}
use Rattle.capi_trace.proofs.numbers.put_numbers.Goals as goal

pub loop-i-preserved : goal.loop-i-preserved
loop-i-preserved c =
    let l = c.loop-i in
    let a = c.args in
    rw (add-one l.i) (c.put_number.ensures ∙ put-more a.numbers.now a.place a.row l.i l.numbers l.invariant (omega arith))

pub returns : goal.returns
returns c =
    let a = c.args in
    c.loop-i.invariant ∙ ap (put_all a.numbers.now a.place) (take_all c.loop-i.i a.row (omega arith))
