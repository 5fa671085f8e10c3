-- `running::make_fast_issues` meets its contract: as long as the last issue was made, the next thread is chosen and issued.
use Prim.Native.Nat.{ℕ, ◌≤◌}
use mathlib.Core.Bool.{Bool, true, false, ◌||◌, cond}
use mathlib.Core.List.{List}
use mathlib.Core.Path.{◌≡◌, refl, sym, ◌∙◌}
use native.Mathlib.Omega.{arith}
use borrow.Author.Tests.{eqb-true, eqb-false, not-false}
use lib.Dec.{eqb}
use Rattle.std.specs.Prelude.{Some, None}
use Rattle.machine.specs.Scheduler.{with_last}
use Rattle.machine.specs.State.{State}
use Rattle.machine.proofs.Claims.{chooses, turned}
use Rattle.machine.proofs.Tests.{neither}
use Rattle.interpreter.specs.Stretch.{StandsAt, CameTo}
use Rattle.interpreter.specs.Types.{Machine, FastIssues}
use Rattle.interpreter.proofs.Issuing.{chosen-thread, none-chosen}
use Rattle.interpreter.proofs.running.make_fast_issues.Goals as goal

pub loop-fast-init : goal.loop-fast-init
loop-fast-init c = (c.requires.2, refl, refl, omega arith, omega arith, λ b first turns size k. k)

-- the last issue is deferred, or the budget is spent
came : (p : List ℕ) (b : ℕ) (first : State) (m : Machine) (turns : List ℕ) (r : FastIssues) (after stored : List ℕ) (deferred : Bool)
    → (deferred || eqb r.left 0) ≡ true → StandsAt p b first m turns r after stored deferred → CameTo p b first m turns r after stored deferred
came p b first m turns r after stored true e k = k
came p b first m turns r after stored false e k = (k, λ t d h. eqb-true r.left 0 e)

pub returns-then-fast : goal.returns-then-fast
returns-then-fast c =
    let l = c.loop-fast in (
      l.invariant.0,
      l.invariant.3,
      λ b first turns size k. came _ b first _ turns l.fast _ _ l.fast.deferred c.if-fast.true (l.invariant.5 b first turns size k),
    )

-- no thread is running
pub returns-in_default : goal.returns-in_default
returns-in_default c =
    let l = c.loop-fast in
    let m = c.args.machine in
    let turn = c.choose in
    let none = turned (with_last m l.fast.last) turn.result (rw (← c.with_last.ensures) turn.ensures) None c.in_default.is in
    let on = neither l.fast.deferred (eqb l.fast.left 0) c.if-fast.false in (
      l.invariant.0,
      l.invariant.3,
      λ b first turns size k.
          let s = rw on.0 at (l.invariant.5 b first turns size k) in
          rw on.0 (s, λ t d h. absurd (none-chosen _ t d none.0 h)),
    )

-- a thread is chosen
pub make_thread_issues-fast-requires : goal.make_thread_issues-fast-requires
make_thread_issues-fast-requires c =
    let l = c.loop-fast in
    let on = neither l.fast.deferred (eqb l.fast.left 0) c.if-fast.false in
    let f = (chooses _ _ _).0 (turned (with_last c.args.machine c.loop-fast.fast.last) c.choose.result (rw (← c.with_last.ensures) c.choose.ensures)
    (Some c.in-Some.next) c.in-Some.is).0 in
    (omega (arith, eqb-false l.fast.left 0 on.1), f.high, omega (arith, l.invariant.4, c.requires.3))

one : (x : Bool) → cond x 1 0 ≤ 1
one true = omega arith
one false = omega arith

pub loop-fast-preserved : goal.loop-fast-preserved
loop-fast-preserved c =
    let l = c.loop-fast in
    let r = c.make_thread_issues-fast in
    let h = (turned (with_last c.args.machine c.loop-fast.fast.last) c.choose.result (rw (← c.with_last.ensures) c.choose.ensures)
    (Some c.in-Some.next) c.in-Some.is).0 in
    let on = neither l.fast.deferred (eqb l.fast.left 0) c.if-fast.false in
    let t = chosen-thread _ _ _ h in (
      rw r.ensures.last t,
      r.auto.registers ∙ l.invariant.1,
      r.auto.memory ∙ l.invariant.2,
      omega (arith, r.ensures.fewer, l.invariant.3, one r.result.deferred),
      omega (arith, r.ensures.bound, l.invariant.4),
      λ b first turns size k.
          r.ensures.goes b first c.args.machine turns l.fast.last c.requires.0 (l.invariant.1 ∙ c.requires.1) size
          (λ e. sym (eqb-true _ l.fast.last (not-false (eqb _ l.fast.last) e))) h (rw on.0 at (l.invariant.5 b first turns size k)),
    )

pub shape_of-registers-then-fast : goal.shape_of-registers-then-fast
shape_of-registers-then-fast c = c.loop-fast.invariant.1

pub shape_of-memory-then-fast : goal.shape_of-memory-then-fast
shape_of-memory-then-fast c = c.loop-fast.invariant.2

pub overflow_cast-fast : goal.overflow_cast-fast
overflow_cast-fast c = omega (arith, c.loop-fast.invariant.0)

pub shape_of-registers-in_default : goal.shape_of-registers-in_default
shape_of-registers-in_default c = c.loop-fast.invariant.1

pub shape_of-memory-in_default : goal.shape_of-memory-in_default
shape_of-memory-in_default c = c.loop-fast.invariant.2

pub loop-fast-smaller : goal.loop-fast-smaller
loop-fast-smaller c = c.make_thread_issues-fast.ensures.fewer
