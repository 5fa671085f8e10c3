-- `assemble_labelled` meets its contract.
use Rattle.assembler.proofs.Refusals.{by-table}
use Rattle.assembler.specs.Into.{into}
use Rattle.assembler.specs.Source.{lines_of, of_lines}
use lib.ListN.{length, take}
use mathlib.Core.Path.{ap, ◌∙◌}
use Prim.Native.Nat.{◌*◌}
use Rattle.assembler.proofs.assembling.assemble_labelled.Goals as goal

pub returns : goal.returns
returns c =
    let x = c.args in
    let l = x.source.now in
    let f = c.fill_labels-counts in
    c.assemble_lines.ensures ∙ ap (λ a. into (of_lines a (length x.words.now) (lines_of l)) x.words.now) (by-table l (take (2 * f.result.labels) f.new.table) f.ensures.holds)
