-- `write_looks` meets its contract: the line has room.
use native.Mathlib.Omega.{arith}
use mathlib.Core.Path.{◌∙◌}
use Rattle.report.proofs.Lengths.{looks-whole}
use Rattle.report.specs.Report.{looks_line}
use Rattle.report.proofs.looks.write_looks.Goals as goal

pub returns : goal.returns
unfolding looks_line
returns c =
    let x = c.args in
    c.put_looks.ensures ∙ looks-whole x.out.now x.looks (omega arith)
