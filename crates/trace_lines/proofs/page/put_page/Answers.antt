-- One row more: its line stands behind those before it. Behind the last row all stand there.
use mathlib.Core.Path.{ap, ◌∙◌}
use mathlib.Core.List.{List}
use native.Mathlib.Numerals.{add-one}
use native.Mathlib.Omega.{arith}
use lib.Seq.{take_all}
use Rattle.text.specs.Buffer.{wrote}
use Rattle.text.specs.Parts.{puts_all}
use Rattle.trace_lines.specs.Lines.{page_parts}
use Rattle.trace_lines.specs.Types.{Row}
use Rattle.trace_lines.proofs.Pages.{page-more}
use Rattle.trace_lines.proofs.page.put_page.Goals as goal

pub loop-i-preserved : goal.loop-i-preserved
loop-i-preserved c =
    let l = c.loop-i in
    let a = c.args in
    rw (add-one l.i) (page-more (wrote 0 a.out.now) a.made a.rows.now l.i _ (omega arith) l.invariant c.put_line-at.ensures)

pub returns : goal.returns
returns c =
    let l = c.loop-i in
    let a = c.args in
    l.invariant ∙ ap (λ (rs : List Row). puts_all (wrote 0 a.out.now) (page_parts a.made rs)) (take_all l.i a.rows.now (omega arith))
