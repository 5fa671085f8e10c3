-- `word_line` meets its contract.
use Rattle.token.proofs.Tokens.{place_read}
use Rattle.expression.specs.Labels.{addresses}
use Rattle.statement.proofs.Parts.{word-part}
use Rattle.statement.proofs.lines.word_line.Goals as goal

pub label_line-requires : goal.label_line-requires
label_line-requires c =
    let place = (place_read _ _ _ _ c.in-Some.ensures).1 in
    (c.requires.0, c.requires.1, place.0, place.1, c.requires.2)

pub returns-in-Some-clause-line : goal.returns-in-Some-clause-line
returns-in-Some-clause-line c = rw (← (place_read _ _ _ _ c.in-Some.ensures).0) (c.label_line.ensures.line (addresses c.args.labels))

pub returns-in_err-i-clause-line : goal.returns-in_err-i-clause-line
returns-in_err-i-clause-line c =
    let x = c.args in
    rw (c.from_residual.ensures, ← (place_read _ _ _ _ c.in_default.ensures).0, ← word-part x.line.now x.start x.stop c.requires.1 c.requires.2, ← c.in_err-i.ensures)

pub returns-clause-line : goal.returns-clause-line
returns-clause-line c =
    let x = c.args in
    rw (← (place_read _ _ _ _ c.in_default.ensures).0, ← word-part x.line.now x.start x.stop c.requires.1 c.requires.2, ← c.in_ok-i.ensures) c.instruction_line.ensures.line
