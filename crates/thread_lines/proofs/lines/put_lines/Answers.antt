-- One entry more: its line stands behind those before it.
use native.Mathlib.Numerals.{add-one}
use Rattle.text.specs.Buffer.{wrote}
use Rattle.text.proofs.Parts.{after}
use Rattle.thread_lines.specs.Lines.{lines_parts}
use Rattle.thread_lines.proofs.lines.put_lines.Goals as goal

pub loop-thread-preserved : goal.loop-thread-preserved
unfolding lines_parts
loop-thread-preserved c =
    let x = c.args in
    let l = c.loop-thread in
    rw (add-one l.thread) (after (wrote x.at x.out.now) (lines_parts x.machine x.registers.now l.thread) _ l.invariant c.put_line-next.ensures)
