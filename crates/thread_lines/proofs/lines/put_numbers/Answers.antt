-- One entry more: its number, where it is off, stands behind those before it.
use native.Mathlib.Numerals.{add-one}
use Rattle.text.specs.Buffer.{wrote}
use Rattle.text.proofs.Parts.{after}
use Rattle.thread_lines.specs.Lines.{off_parts}
use Rattle.thread_lines.proofs.lines.put_numbers.Goals as goal

pub loop-thread-preserved : goal.loop-thread-preserved
unfolding off_parts
loop-thread-preserved c =
    let x = c.args in
    let l = c.loop-thread in
    rw (add-one l.thread) (after (wrote x.at x.out.now) (off_parts x.machine l.thread) _ l.invariant c.put_off-next.ensures)
