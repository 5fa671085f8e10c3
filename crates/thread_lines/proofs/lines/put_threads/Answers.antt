-- `put_threads` meets its contract: the lines of the threads that are on, and then that of the others.
use Rattle.text.specs.Buffer.{wrote}
use Rattle.text.proofs.Parts.{after}
use Rattle.thread_lines.specs.Lines.{lines_parts, off_line}
use Rattle.thread_lines.proofs.lines.put_threads.Goals as goal

pub returns : goal.returns
returns c =
    let x = c.args in
    after (wrote x.at x.out.now) (lines_parts x.machine x.registers.now 8) (off_line x.machine) c.put_lines-at.ensures c.put_off_line.ensures
