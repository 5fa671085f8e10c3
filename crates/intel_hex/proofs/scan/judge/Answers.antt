-- `judge` meets its contract: what is read so far, and the lines that are left, are the whole file.
use Rattle.std.proofs.Common.{sym, ◌∙◌, ◌+◌, arith}
use borrow.Author.Tests.{eqb-true, eqb-false}
use Rattle.intel_hex.proofs.Lines.{lf-some, lf-below, lf-none, rest_of}
use Rattle.intel_hex.proofs.Scanning.{begin, judged-behind, judged-unended, judged-whole, judged-endless, judged-stops, judging}
use Rattle.intel_hex.proofs.scan.judge.Goals as goal

pub loop-rest-init : goal.loop-rest-init
loop-rest-init c = begin c.args.text.now

pub returns-then-c : goal.returns-then-c
returns-then-c c =
    let l = c.loop-rest in
    let more = eqb-false _ _ (sym c.is_empty.ensures ∙ c.loop-rest-test.true) in
    judged-behind c.args.text.now l.c l.line l.rest.now l.invariant (omega arith) c.if-c.true

pub returns-in_default : goal.returns-in_default
returns-in_default c =
    let l = c.loop-rest in
    let more = eqb-false _ _ (sym c.is_empty.ensures ∙ c.loop-rest-test.true) in
    judged-unended c.args.text.now l.c l.line l.rest.now l.invariant (omega arith) c.if-c.false (lf-none l.rest.now c.in_default.ensures)

pub returns-in-Err : goal.returns-in-Err
returns-in-Err c =
    let l = c.loop-rest in
    let t = l.rest.now in
    let e = sym c.in-Some.is ∙ c.line_feed.ensures in
    judged-stops c.args.text.now l.c l.line t l.invariant c.in-Some.end (lf-below t c.in-Some.end e) c.if-c.false (lf-some t c.in-Some.end e)
    c.in-Err.refusal (sym c.advance.ensures ∙ c.in-Err.is)

pub loop-rest-preserved : goal.loop-rest-preserved
loop-rest-preserved c =
    let l = c.loop-rest in
    let t = l.rest.now in
    let e = sym c.in-Some.is ∙ c.line_feed.ensures in
    rw (rest_of t (c.in-Some.end + 1))
    (judging c.args.text.now l.c l.line t l.invariant c.in-Some.end (lf-below t c.in-Some.end e) c.if-c.false (lf-some t c.in-Some.end e)
    c.in-Ok.next (sym c.advance.ensures ∙ c.in-Ok.is))

pub returns-then-c-2 : goal.returns-then-c-2
returns-then-c-2 c =
    let l = c.loop-rest in
    judged-whole c.args.text.now l.c l.line l.rest.now l.invariant (eqb-true _ _ (sym c.is_empty.ensures ∙ c.loop-rest-test.false)) c.if-c-2.true

pub returns : goal.returns
returns c =
    let l = c.loop-rest in
    judged-endless c.args.text.now l.c l.line l.rest.now l.invariant (eqb-true _ _ (sym c.is_empty.ensures ∙ c.loop-rest-test.false)) c.if-c-2.false
