-- `word_at` meets its contract.
use Rattle.std.proofs.Common.{drop, ap, ◌∙◌, arith}
use lib.Seq.{slice}
use Rattle.expression.specs.Grammar.{word_term}
use Rattle.expression.specs.Labels.{addresses}
use Rattle.token.specs.Token.{tokens}
use Rattle.expression.specs.Value.{value_term}
use Rattle.expression.specs.Reading.{term_value_of}
use Rattle.token.proofs.Runs.{part-is}
use Rattle.expression.proofs.Words.{worth-some, worth-none}
use Rattle.expression.proofs.expression.word_at.Goals as goal

pub returns-in_err-value-clause-read : goal.returns-in_err-value-clause-read
returns-in_err-value-clause-read c =
    let a = c.args in
    rw c.from_residual.ensures
    (worth-none (value_term (addresses a.labels) 0) (word_term (slice a.start a.stop a.line.now)) (tokens (drop a.stop a.line.now)) (c.in_err-value.ensures.value ∙ ap (λ w. term_value_of (value_term (addresses a.labels) 0) (word_term w)) (part-is a.start a.stop a.line.now (omega arith))))

pub returns : goal.returns
returns c =
    let a = c.args in
    record {
      read = worth-some (value_term (addresses a.labels) 0) (word_term (slice a.start a.stop a.line.now)) c.in_ok-value.value (tokens (drop a.stop a.line.now)) (c.in_ok-value.ensures.value ∙ ap (λ w. term_value_of (value_term (addresses a.labels) 0) (word_term w)) (part-is a.start a.stop a.line.now (omega arith)));
      ahead = (c.requires.1, c.requires.0, c.in_ok-value.ensures.held);
    }
