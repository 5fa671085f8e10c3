-- After k rows the lines of the first k rows stand in the buffer.
use mathlib.Core.Path.{◌≡◌}
use lib.ListN.{take}
use Rattle.text.specs.Buffer.{wrote}
use Rattle.text.specs.Parts.{puts_all}
use Rattle.trace_lines.specs.Lines.{page_parts}
use Rattle.trace_lines.proofs.page.put_page.Given as goal

abbrev pub invariant-loop-i : goal.invariant-loop-i
invariant-loop-i l = wrote l.at l.out ≡ puts_all (wrote 0 l.initial.out) (page_parts l.made (take l.i l.rows))
