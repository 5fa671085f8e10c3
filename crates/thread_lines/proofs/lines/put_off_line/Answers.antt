-- Its parts one behind the other.
use borrow.Author.Tests.{ne_eqb}
use mathlib.Core.List.{[], ◌∷◌}
use Rattle.isa.specs.Text.{bytes}
use Rattle.text.specs.Buffer.{wrote}
use Rattle.text.proofs.Parts.{after}
use Rattle.thread_lines.specs.Lines.{off_parts, off_line}
use Rattle.thread_lines.proofs.lines.put_off_line.Goals as goal

pub returns : goal.returns
unfolding off_line bytes
returns c =
    let x = c.args in
    let p = bytes "threads off:" ∷ off_parts x.machine 8 in
    rw (ne_eqb x.machine.enabled 255 c.if-machine-eq255.false)
    (after (wrote x.at x.out.now) p (bytes "\n" ∷ []) (after (wrote x.at x.out.now) (bytes "threads off:" ∷ []) (off_parts x.machine 8) c.put_text-at.ensures c.put_numbers-at.ensures) c.put_text.ensures)
