-- `line_end` meets its contract.
use Rattle.std.proofs.Common.{◌+◌, length, take, drop, sym, ap, ◌∙◌}
use lib.ListN.{length-drop}
use lib.Seq.{take-length}
use Rattle.statement.specs.Line.{up_to}
use Rattle.assembler.proofs.lines.line_end.Goals as goal

pub returns : goal.returns
returns c =
    let l = c.args.source.now in
    let s = c.args.start in
    ap (λ x. s + length x) (c.up_to.ensures ∙ ap (λ x. up_to 10 x) (ap (λ n. take n (drop s l)) (sym (length-drop s l)) ∙ take-length (drop s l)))
