use Rattle.token.proofs.Tokens.{token-read}
use native.Mathlib.Omega.{arith}
use borrow.Author.Tests.{eq-eqb, ne_eqb}
use lib.ListN.{length}
use Rattle.expression.specs.Labels.{addresses}
use Rattle.expression.proofs.Places.{deeper, ahead-from, further}
use Rattle.expression.proofs.Steps.{sum-stops, sum-ends, sum-goes-on, term-ends, term-word, term-mark, term-group}
use Rattle.expression.proofs.expression.+sum_term.Goals as goal

pub sum-returns-in_err-value-clause-read : goal.sum-returns-in_err-value-clause-read
sum-returns-in_err-value-clause-read t c =
    let a = c.args in
    rw c.from_residual.ensures (sum-stops a.line.now (addresses a.labels) a.at a.depth a.running a.sign c.in_err-value.ensures.read)

pub sum-returns-in-None-clause-read : goal.sum-returns-in-None-clause-read
sum-returns-in-None-clause-read t c =
    let a = c.args in
    let f = c.in_ok-value in
    rw c.plus-now.ensures.value (sum-ends a.line.now (addresses a.labels) a.at a.depth a.running a.sign f.value f.next f.ensures.read c.in-None.ensures.sign)

pub sum-returns-in-Some-clause-read : goal.sum-returns-in-Some-clause-read
sum-returns-in-Some-clause-read t c =
    let a = c.args in
    let f = c.in_ok-value in
    let g = c.in-Some in
    sum-goes-on a.line.now (addresses a.labels) a.at a.depth a.running a.sign g.sign f.value f.next g.after c.sum.result (omega (arith, f.ensures.ahead, g.ensures.onward)) g.ensures.onward.1 f.ensures.read g.ensures.sign (rw c.plus-now.ensures.value at c.sum.ensures.read)

pub term-word_at-requires : goal.term-word_at-requires
term-word_at-requires t c =
    let fwd = (token-read _ _ _ c.in-Word.ensures).1.0 in
    (fwd.2, fwd.1)

pub term-returns-then-c-ne40-clause-read : goal.term-returns-then-c-ne40-clause-read
term-returns-then-c-ne40-clause-read t c =
    let a = c.args in
    term-mark a.line.now (addresses a.labels) a.at a.depth c.in-Mark.c c.in-Mark.next (token-read _ _ _ c.in-Mark.ensures).0 (ne_eqb _ 40 c.if-c-ne40.true)

pub term-sum-inside-requires : goal.term-sum-inside-requires
term-sum-inside-requires t c =
    let a = c.args in
    let fwd = (token-read _ _ _ c.in-Mark.ensures).1.0 in
    (deeper (length a.line.now) a.at c.in-Mark.next c.lead_at-sign.result.1 t c.decreases fwd.0 fwd.1 c.lead_at-sign.ensures.onward, (omega arith, omega arith))

pub term-returns-in-End-clause-read : goal.term-returns-in-End-clause-read
term-returns-in-End-clause-read t c =
    let a = c.args in
    term-ends a.line.now (addresses a.labels) a.at a.depth (token-read _ _ _ c.in-End.ensures).0

pub term-returns-in-Word-clause-read : goal.term-returns-in-Word-clause-read
term-returns-in-Word-clause-read t c =
    let a = c.args in
    term-word a.line.now (addresses a.labels) a.at a.depth c.in-Word.start c.in-Word.stop c.word_at.result (token-read _ _ _ c.in-Word.ensures).0 c.word_at.ensures.read

pub term-returns-in-Word-clause-ahead : goal.term-returns-in-Word-clause-ahead
term-returns-in-Word-clause-ahead t c =
    let a = c.args in
    ahead-from a.at c.in-Word.start (length a.line.now) c.word_at.result (token-read _ _ _ c.in-Word.ensures).1.0.0 c.word_at.ensures.ahead

pub term-returns-else-c-ne40-clause-read : goal.term-returns-else-c-ne40-clause-read
term-returns-else-c-ne40-clause-read t c =
    let a = c.args in
    let f = c.in-Mark in
    let read = token-read _ _ _ f.ensures in
    let l = c.lead_at-sign in
    term-group a.line.now (addresses a.labels) a.at a.depth f.c f.next l.result.1 l.result.0 c.sum-inside.result c.close.result read.1.0.0 l.ensures.onward read.1.0.1 read.0 (eq-eqb _ 40 c.if-c-ne40.false) l.ensures.lead (rw c.saturating_sub-left.ensures at c.sum-inside.ensures.read) c.close.ensures.read

pub term-returns-else-c-ne40-clause-ahead : goal.term-returns-else-c-ne40-clause-ahead
term-returns-else-c-ne40-clause-ahead t c =
    let a = c.args in
    let l = c.lead_at-sign in
    let fwd = (token-read _ _ _ c.in-Mark.ensures).1.0 in
    further a.at l.result.1 (length a.line.now) c.sum-inside.result c.close.result (omega (arith, l.ensures.onward)) c.sum-inside.ensures.ahead c.close.ensures.ahead
