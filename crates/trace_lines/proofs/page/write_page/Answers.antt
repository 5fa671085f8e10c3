-- The page has room.
use mathlib.Core.Path.{◌∙◌}
use native.Mathlib.Omega.{arith}
use Rattle.trace_lines.proofs.Lengths.{page-whole}
use Rattle.trace_lines.proofs.Pages.{all_shown}
use Rattle.trace_lines.proofs.page.write_page.Goals as goal

pub returns-then-count-gt-PAGE_ROWS : goal.returns-then-count-gt-PAGE_ROWS
returns-then-count-gt-PAGE_ROWS c =
    let x = c.args in
    c.put_page.ensures ∙ all_shown x.out.now x.made x.count x.rows (omega arith) (omega arith) (omega arith)

pub returns-else-count-gt-PAGE_ROWS : goal.returns-else-count-gt-PAGE_ROWS
returns-else-count-gt-PAGE_ROWS c =
    let x = c.args in
    c.put_page-else-count-gt-PAGE_ROWS.ensures ∙ page-whole x.out.now x.made x.count x.rows (omega arith) (omega arith)
