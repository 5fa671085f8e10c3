-- `arrive` meets its contract: with the thread counted, as many wait as the others and one more.
use Prim.Native.Nat.{ℕ, zero, suc, ◌<◌}
use mathlib.Core.Bool.{true, false}
use mathlib.Core.List.{List, [], ◌∷◌, map}
use mathlib.Core.Path.{◌≡◌, refl, sym, ap, ◌∙◌}
use Rattle.std.specs.Prelude.{Bool, cond, Option, Some, None}
use native.Mathlib.Omega.{arith}
use borrow.Author.Tests.{eq-eqb, ne_eqb}
use lib.Dec.{eqb}
use lib.ListN.{length, set}
use Rattle.machine.specs.Barrier.{released, release, release_if_met, others_waiting}
use Rattle.thread_entry.specs.Entry.{with_status}
use Rattle.machine.specs.Machine.{status_at, with_status_at}
use Rattle.thread_entry.specs.Status.{waits_at}
use Rattle.machine.specs.Types.{Running, Waiting, Thread, Machine}
use Rattle.machine.specs.WellFormed.{waiting, disputed}
use Rattle.machine.proofs.Kept.{set_same, set_other}
use Rattle.machine.proofs.Meetings.{other_waits}
use Rattle.machine.proofs.Threads.{count-one-apart, threads-few}
use Rattle.machine.proofs.record.Machine.arrive.Goals as goal

map-set : (f : Thread → Thread) (xs : List Thread) (t : ℕ) (x y : Thread) → f x ≡ f y → map f (set xs t x) ≡ map f (set xs t y)
map-set f [] t x y e = refl
map-set f (z ∷ xs) zero x y e = ap {B = List Thread} (λ r. r ∷ map f xs) e
map-set f (z ∷ xs) (suc t) x y e = ap {B = List Thread} (λ r. f z ∷ r) (map-set f xs t x y e)

module _ (m : Machine) (t id count : ℕ) where
  -- whether it is running or waits there, a barrier that is released leaves it running
  released-same : release (with_status_at m t Running) id ≡ release (with_status_at m t (Waiting id count)) id
  unfolding release
  released-same =
      ap (λ xs. record { enabled = m.enabled; last = m.last; threads = xs })
      (map-set (λ e. with_status e (released id e.status)) m.threads t _ _
      (rw (eq-eqb id id refl)))

  waiting-now : t < 8 → t < length m.threads → waiting (with_status_at m t (Waiting id count)) id ≡ suc (others_waiting m t id)
  waiting-now small l =
      count-one-apart (λ u. waits_at id (status_at (with_status_at m t (Waiting id count)) u)) (other_waits m t id) t
      (ap (waits_at id) (set_same m t (Waiting id count) l) ∙ eq-eqb id id refl)
      (rw (eq-eqb t t refl))
      (λ u n. ap (waits_at id) (set_other m t (Waiting id count) u n) ∙ rw (ne_eqb u t n))
      small

-- what the look at the others says
agreed : (b : Bool) {n k : ℕ} → ◌≡◌ {A = Option ℕ} (Some n) (cond b None (Some k)) → (b ≡ false) × (n ≡ k)
agreed true e = (cc, cc)
agreed false e = (refl, cc)

refused : (b : Bool) (k : ℕ) → ◌≡◌ {A = Option ℕ} None (cond b None (Some k)) → b ≡ true
refused true k e = refl
refused false k e = cc

pub returns-in_default : goal.returns-in_default
returns-in_default c =
    let a = c.args in
    rw (refused (disputed a.self a.thread a.id a.count) (others_waiting a.self a.thread a.id) (sym c.in_default.is ∙ c.others.ensures), c.trap.ensures, c.number.ensures)

pub returns-then-n-from : goal.returns-then-n-from
unfolding release_if_met
returns-then-n-from c =
    let a = c.args in
    let e = agreed (disputed a.self a.thread a.id a.count) c.in-Some.ensures in
    let eight : length a.self.threads ≡ 8 = c.well_formed.0.1.1.1.0.1.0.1 in
    let n = waiting-now a.self a.thread a.id a.count c.requires (omega (arith, eight, c.requires)) in
    let met : eqb (waiting (with_status_at a.self a.thread (Waiting a.id a.count)) a.id) a.count ≡ true =
    eq-eqb (waiting (with_status_at a.self a.thread (Waiting a.id a.count)) a.id) a.count (omega (arith, n, e.1, c.from.ensures, c.if-n-from.true)) in
    rw (e.0, met, c.release-machine.ensures, c.with_status.ensures) (ap (λ x. record { trapped = false; machine = x }) (released-same a.self a.thread a.id a.count))

pub returns-else-n-from : goal.returns-else-n-from
unfolding release_if_met
returns-else-n-from c =
    let a = c.args in
    let e = agreed (disputed a.self a.thread a.id a.count) c.in-Some.ensures in
    let eight : length a.self.threads ≡ 8 = c.well_formed.0.1.1.1.0.1.0.1 in
    let n = waiting-now a.self a.thread a.id a.count c.requires (omega (arith, eight, c.requires)) in
    let met : eqb (waiting (with_status_at a.self a.thread (Waiting a.id a.count)) a.id) a.count ≡ false =
    ne_eqb (waiting (with_status_at a.self a.thread (Waiting a.id a.count)) a.id) a.count (λ f. c.if-n-from.false (omega (arith, n, e.1, c.from.ensures, f))) in
    rw (e.0, met, c.with_status-machine.ensures)

pub overflow_add-n : goal.overflow_add-n
overflow_add-n c =
    let a = c.args in
    omega (arith, (agreed (disputed a.self a.thread a.id a.count) c.in-Some.ensures).1, threads-few (other_waits a.self a.thread a.id))
