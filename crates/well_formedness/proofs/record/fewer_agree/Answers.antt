-- `fewer_agree` meets its contract.
use Rattle.std.proofs.Common.{◌≡◌, ◌∙◌, sym, true, false}
use borrow.Author.Tests.{eq-eqb, ne_eqb}
use Rattle.machine.proofs.Loops.{search-start, search-found, search-on, search-done, count-start, count-one, count-on, count-done}
use Rattle.machine.proofs.Meetings.{disputes, waits_here}
use Rattle.well_formedness.proofs.record.fewer_agree.Goals as goal
use Rattle.well_formedness.proofs.record.fewer_agree.Goals.{else-t-thread-via-then-t-thread+else-waits_otherwise, else-t-thread-via-else-t-thread, then-waits_at, else-waits_at}

pub loop-t-init : goal.loop-t-init
loop-t-init c =
    let a = c.args in
    (search-start (disputes a.machine a.thread a.id a.count), count-start (waits_here a.machine a.id))

-- thread t disputes
pub returns-then-waits_otherwise : goal.returns-then-waits_otherwise
returns-then-waits_otherwise c =
    let l = c.loop-t in
    let a = c.args in
    let d = disputes a.machine a.thread a.id a.count in
    let h : d l.t ≡ true = rw (ne_eqb l.t a.thread c.if-t-thread.true) (sym c.waits_otherwise.ensures ∙ c.if-waits_otherwise.true) in
    rw (search-found d l.t l.invariant.0 c.loop-t-test.true h)

pub loop-t-preserved : goal.loop-t-preserved
loop-t-preserved c =
    let l = c.loop-t in
    let a = c.args in
    let d = disputes a.machine a.thread a.id a.count in
    let w = waits_here a.machine a.id in
    let more = c.loop-t-test.true in
    let h : d l.t ≡ false =
    elim c.else-t-thread.branch [
      | else-t-thread-via-then-t-thread+else-waits_otherwise x ↦
          rw (ne_eqb l.t a.thread x.if-t-thread.true) (sym x.waits_otherwise.ensures ∙ x.if-waits_otherwise.false)
      | else-t-thread-via-else-t-thread x ↦ rw (eq-eqb l.t a.thread x.if-t-thread.false)
    ] in (
      search-on d l.t l.invariant.0 more h,
      elim c.if-waits_at.branch [
        | then-waits_at x ↦ count-one w l.t l.invariant.1 more (sym c.waits_at.ensures ∙ x.if-waits_at.true) x.n-is
        | else-waits_at x ↦ count-on w l.t l.invariant.1 more (sym c.waits_at.ensures ∙ x.if-waits_at.false) x.n-is
      ],
    )

pub returns : goal.returns
returns c =
    let l = c.loop-t in
    let a = c.args in
    rw (
      search-done (disputes a.machine a.thread a.id a.count) l.t l.invariant.0 c.loop-t-test.false,
      count-done (waits_here a.machine a.id) l.t l.invariant.1 c.loop-t-test.false,
      c.from.ensures,
    )
