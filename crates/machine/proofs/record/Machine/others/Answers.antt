-- `others` meets its contract.
use Rattle.std.proofs.Common.{◌≡◌, ◌≢◌, ℕ, ◌<◌, ◌+◌, Bool, true, false, not, ◌&&◌, refl, sym, ap, ◌∙◌, Some}
use borrow.Author.Tests.{eq-eqb, ne_eqb}
use lib.Dec.{eqb}
use Rattle.machine.specs.Machine.{status_at}
use Rattle.machine.specs.Types.{Machine}
use Rattle.machine.specs.WellFormed.{disputed}
use Rattle.thread_entry.specs.Status.{waits_at}
use Rattle.machine.proofs.Loops.{Searching, search-start, search-found, search-on, search-done, Counting, count-start, count-one, count-on, count-done}
use Rattle.machine.proofs.Meetings.{other_waits, disputes, waits-nowhere, skips}
use Rattle.machine.proofs.record.Machine.others.Goals as goal
use Rattle.machine.proofs.record.Machine.others.Goals.{then-is_waiting+then-t-thread+then-waits_at+else-waits_otherwise, else-is_waiting, else-is_waiting-via-then-is_waiting+then-t-thread+else-waits_at, else-is_waiting-via-then-is_waiting+else-t-thread, else-is_waiting-via-else-is_waiting}

module _ (m : Machine) (thread id count t : ℕ) where
  -- another than the thread, of whose status a test then decides
  other : t ≢ thread → {a b : Bool} → a ≡ b → (not (eqb t thread) && a) ≡ b
  other n h = rw (ne_eqb t thread n) h

  -- the thread itself, or one that does not wait there
  itself : t ≡ thread → other_waits m thread id t ≡ false
  itself e = rw (eq-eqb t thread e)

  elsewhere : waits_at id (status_at m t) ≡ false → other_waits m thread id t ≡ false
  elsewhere h = ap (λ b. not (eqb t thread) && b) h ∙ go (not (eqb t thread))
    where
      go : (a : Bool) → (a && false) ≡ false
      go true = refl
      go false = refl

  -- a thread that is not counted
  passed : {n r : ℕ} → Searching (disputes m thread id count) t × Counting (other_waits m thread id) t n → t < 8 → r ≡ n
      → other_waits m thread id t ≡ false → Searching (disputes m thread id count) (t + 1) × Counting (other_waits m thread id) (t + 1) r
  passed inv more e h =
      (search-on (disputes m thread id count) t inv.0 more (skips m thread id count t h), count-on (other_waits m thread id) t inv.1 more h e)

pub loop-t-init : goal.loop-t-init
loop-t-init c =
    let a = c.args in
    (search-start (disputes a.self a.thread a.id a.count), count-start (other_waits a.self a.thread a.id))

pub loop-t-preserved : goal.loop-t-preserved
loop-t-preserved c =
    let l = c.loop-t in
    let a = c.args in
    let more = c.loop-t-test.true in
    let d = disputes a.self a.thread a.id a.count in
    let w = other_waits a.self a.thread a.id in
    elim c.if-is_waiting.branch [
      | then-is_waiting+then-t-thread+then-waits_at+else-waits_otherwise x ↦
          let n = x.if-t-thread.true in
          let k : w l.t ≡ true = other a.self a.thread a.id a.count l.t n (sym x.waits_at.ensures ∙ x.if-waits_at.true) in
          let h : d l.t ≡ false = other a.self a.thread a.id a.count l.t n (sym x.waits_otherwise.ensures ∙ x.if-waits_otherwise.false) in
          (search-on d l.t l.invariant.0 more h, count-one w l.t l.invariant.1 more k x.n-is)
      | else-is_waiting x ↦
          passed a.self a.thread a.id a.count l.t l.invariant more x.n-is
          (elim x.else-is_waiting.branch [
            | else-is_waiting-via-then-is_waiting+then-t-thread+else-waits_at y ↦
                elsewhere a.self a.thread a.id a.count l.t (sym y.waits_at.ensures ∙ y.if-waits_at.false)
            | else-is_waiting-via-then-is_waiting+else-t-thread y ↦ itself a.self a.thread a.id a.count l.t y.if-t-thread.false
            | else-is_waiting-via-else-is_waiting y ↦
                elsewhere a.self a.thread a.id a.count l.t
                (waits-nowhere a.id (status_at a.self l.t) (sym c.is_waiting.ensures ∙ y.if-is_waiting.false))
          ])
    ]

pub returns-then-waits_otherwise : goal.returns-then-waits_otherwise
returns-then-waits_otherwise c =
    let l = c.loop-t in
    let a = c.args in
    let d = disputes a.self a.thread a.id a.count in
    let h : d l.t ≡ true = other a.self a.thread a.id a.count l.t c.if-t-thread.true (sym c.waits_otherwise.ensures ∙ c.if-waits_otherwise.true) in
    let e : disputed a.self a.thread a.id a.count ≡ true = search-found d l.t l.invariant.0 c.loop-t-test.true h in
    rw e

pub returns : goal.returns
returns c =
    let l = c.loop-t in
    let a = c.args in
    let e : disputed a.self a.thread a.id a.count ≡ false =
    search-done (disputes a.self a.thread a.id a.count) l.t l.invariant.0 c.loop-t-test.false in
    rw e (ap Some (sym (count-done (other_waits a.self a.thread a.id) l.t l.invariant.1 c.loop-t-test.false)))
