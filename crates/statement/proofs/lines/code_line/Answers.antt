-- `code_line` meets its contract.
use Rattle.std.proofs.Common.{◌≡◌, ◌∷◌, drop, get_or, sym, ap, ◌∙◌}
use lib.Seq.{slice}
use Rattle.token.specs.declared.token.Token.TheVariants.{Word}
use Rattle.token.specs.Byte.{is_blank}
use Rattle.token.specs.Token.{word, tokens, past}
use Rattle.token.specs.Scan.{WholeWord}
use Rattle.token.proofs.Runs.{run-part}
use Rattle.token.proofs.Tokens.{token-read}
use Rattle.expression.specs.Labels.{addresses}
use Rattle.statement.specs.Evaluation.{evaluated_line}
use Rattle.statement.specs.Line.{by_colon, token_line, is_spaced}
use Rattle.statement.proofs.Saying.{word_end_lem}
use Rattle.statement.proofs.lines.code_line.Goals as goal

pub word_line-requires : goal.word_line-requires
word_line-requires c =
    let read = (token-read _ _ _ c.in-Word.ensures).1 in
    (read.0.2, read.0.1, read.1.1)

pub returns-in-End-clause-line : goal.returns-in-End-clause-line
returns-in-End-clause-line c = rw ((token-read _ _ _ c.in-End.ensures).0)

pub returns-in-Mark-clause-line : goal.returns-in-Mark-clause-line
returns-in-Mark-clause-line c = rw ((token-read _ _ _ c.in-Mark.ensures).0)

pub returns-in-Word-clause-line : goal.returns-in-Word-clause-line
returns-in-Word-clause-line c =
    let x = c.args in
    let l = x.line.now in
    let s = c.in-Word.start in
    let e = c.in-Word.stop in
    let a = addresses x.labels in
    let ts = tokens (drop e l) in
    let w : WholeWord l 0 (Word s e) = (token-read _ _ _ c.in-Word.ensures).1.1 in
    let tok : tokens l ≡ word (slice s e l) ∷ ts = (token-read _ _ _ c.in-Word.ensures).0 in
    c.word_line.ensures.line ∙ ap (λ y. evaluated_line a (by_colon y (is_blank (get_or l e 0)) ts (past 58 ts))) (sym (run-part l s e w.1)) ∙ ap (λ k. evaluated_line a (by_colon (slice s e l) (is_blank (get_or l k 0)) ts (past 58 ts))) (sym (word_end_lem l s e w.0 w.1)) ∙ ap (λ y. evaluated_line a (token_line (is_spaced l) y)) (sym tok)
