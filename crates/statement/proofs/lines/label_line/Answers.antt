-- `label_line` meets its contract.
use Rattle.std.proofs.Common.{◌≡◌, drop, true, false, sym, ap, ◌∙◌, arith}
use Rattle.token.specs.Token.{leading_word, tokens}
use Rattle.token.specs.Name.{is_label}
use Rattle.token.proofs.Tokens.{token-read}
use Rattle.statement.proofs.Saying.{no_label, a-label, label-more}
use Rattle.statement.proofs.Parts.{word-part}
use Rattle.statement.proofs.Tokens.{a_token}
use Rattle.statement.proofs.lines.label_line.Goals as goal

pub returns-then-not-is_label-clause-line : goal.returns-then-not-is_label-clause-line
returns-then-not-is_label-clause-line c =
    let x = c.args in
    let w = word-part x.line.now x.start x.stop c.requires.1 c.requires.4 in
    let h : is_label (leading_word (drop x.start x.line.now)) ≡ false = ap is_label (sym w) ∙ sym c.is_label.ensures ∙ c.if-not-is_label.true in
    λ a. no_label a (leading_word (drop x.start x.line.now)) (tokens (drop x.next x.line.now)) h

pub returns-in-End-clause-line : goal.returns-in-End-clause-line
returns-in-End-clause-line c =
    let x = c.args in
    let w = word-part x.line.now x.start x.stop c.requires.1 c.requires.4 in
    let h : is_label (leading_word (drop x.start x.line.now)) ≡ true = ap is_label (sym w) ∙ sym c.is_label.ensures ∙ c.if-not-is_label.false in
    λ a. a-label a (leading_word (drop x.start x.line.now)) (tokens (drop x.next x.line.now)) h (token-read _ _ _ c.in-End.ensures).0

pub returns-in-Word : goal.returns-in-Word
returns-in-Word c =
    let x = c.args in
    let t = a_token x.line.now x.next c.token_at.result (token-read _ _ _ c.token_at.ensures).0 c.in-Word.is in
    record {
      line = (λ a. label-more a (leading_word (drop x.start x.line.now)) t.0 (tokens (drop x.next x.line.now)) t.1 t.2);
      label = omega arith;
    }
