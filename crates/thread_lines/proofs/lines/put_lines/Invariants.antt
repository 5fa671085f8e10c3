-- After k entries the lines of the first k threads stand in the buffer.
use mathlib.Core.Path.{◌≡◌}
use Rattle.text.specs.Buffer.{wrote}
use Rattle.thread_lines.specs.Lines.{lines_parts}
use Rattle.text.specs.Parts.{puts_all}
use Rattle.thread_lines.proofs.lines.put_lines.Given as goal

abbrev pub invariant-loop-thread : goal.invariant-loop-thread
invariant-loop-thread l = wrote l.next l.out ≡ puts_all (wrote l.at l.initial.out) (lines_parts l.fn.machine l.registers l.thread)
