-- `running::make_stretch` meets its contract: the fast path makes issues up to one that the slow path makes, until a status is set or
-- nothing more is issued.
use Prim.Native.Nat.{◌+◌, ◌-◌, ◌%◌}
use mathlib.Core.Bool.{true, false}
use mathlib.Core.Path.{◌≡◌, refl, sym, ap, subst, ◌∙◌}
use native.Mathlib.Omega.{arith}
use borrow.Author.Tests.{not-true, not-false}
use lib.ListN.{length}
use Rattle.machine.specs.Rounds.{after_rounds}
use Rattle.std.specs.Prelude.{Some, None}
use Rattle.machine.specs.Scheduler.{with_last}
use Rattle.machine.specs.State.{state, recounted}
use Rattle.machine.proofs.Claims.{chooses, turned, rounds-counted}
use Rattle.interpreter.specs.Answer.{ending_of}
use Rattle.interpreter.specs.Stretch.{Over}
use Rattle.interpreter.specs.Types.{Spent}
use Rattle.interpreter.proofs.Issuing.{chosen-beside, look_none, look-some, carried-start, issue-untouched, issue-last, awaited-made, awaited-on, awaited-some, over-idle, idle-beside, over-spent}
use Rattle.interpreter.proofs.Runs.{carried-within}
use Rattle.interpreter.proofs.running.make_stretch.Goals as goal

pub loop-machine-init : goal.loop-machine-init
loop-machine-init c =
    let a = c.args in
    let e : a.left - a.left ≡ 0 = omega arith in
    let same : a.machine.last % 8 ≡ a.machine.last = omega (arith, c.requires.3) in (
      omega arith,
      refl,
      refl,
      record {
        within = omega arith;
        there = omega arith;
        carried = rw (same, e, rounds-counted.none a.machine a.turns.now) (carried-start _ _ _);
      },
    )

pub make_fast_issues-fast-requires : goal.make_fast_issues-fast-requires
make_fast_issues-fast-requires c =
    let l = c.loop-machine in
    let k = l.invariant.3 in
    (c.requires.0, l.invariant.1 ∙ c.requires.1, l.invariant.0, omega (arith, c.ranges.left, k.within, carried-within _ _ _ _ _ _ k.carried))

-- no thread is running
pub returns-in-None : goal.returns-in-None
returns-in-None c =
    let m = c.make_fast_issues-fast in
    let w = c.with_last-at.ensures in
    let turn = c.choose in
    let e : c.make_fast_issues-fast.result.deferred ≡ false = not-true _ c.if-not-fast.true in
    let k = rw e at (c.make_fast_issues-fast.ensures.2 _ _ _ c.requires.2 c.loop-machine.invariant.3) in
    let at = with_last c.args.machine m.result.last in
    let counts = after_rounds c.args.machine m.result.passed c.args.turns.now in
    let s = state at m.new.registers m.new.memory in
    let none = chosen-beside s counts (turned at turn.result (rw (← w) turn.ensures) None c.in-None.is).0 in
    rw w (
      record {
        carried = k.0.carried;
        within = k.0.within;
        some-made = λ e. cc;
        over =
            λ stop e.
            let f : c.idle_stop.result ≡ stop = cc in
            over-idle _ _ (recounted s counts) stop none (sym (ap ending_of f) ∙ rw w at c.idle_stop.ensures ∙ sym (idle-beside at counts));
        looks = ap (λ n. m.result.passed + n) (sym (look_none c.args.program.now (recounted s counts) none));
      },
      m.ensures.0,
    )

-- the budget is spent
pub returns-in-Some : goal.returns-in-Some
returns-in-Some c =
    let m = c.make_fast_issues-fast in
    let w = c.with_last-at.ensures in
    let turn = c.choose in
    let e : c.make_fast_issues-fast.result.deferred ≡ false = not-true _ c.if-not-fast.true in
    let k = rw e at (c.make_fast_issues-fast.ensures.2 _ _ _ c.requires.2 c.loop-machine.invariant.3) in
    let at = with_last c.args.machine m.result.last in
    let counts = after_rounds c.args.machine m.result.passed c.args.turns.now in
    let s = state at m.new.registers m.new.memory in
    let h = (turned at turn.result (rw (← w) turn.ensures) (Some c.in-Some.next) c.in-Some.is).0 in
    let some = chosen-beside s counts h in
    rw w (
      record {
        carried = k.0.carried;
        within = k.0.within;
        some-made = λ e. cc;
        over =
            λ stop e.
            let f : Spent ≡ stop = cc in
            let o = over-spent _ _ (recounted s counts) c.in-Some.next.thread c.in-Some.next.distance some (k.1 c.in-Some.next.thread c.in-Some.next.distance h) in
            subst (Over c.args.program.now m.result.left (recounted s counts)) f o;
        looks = ap (λ n. m.result.passed + n) (sym (look-some c.args.program.now (recounted s counts) c.in-Some.next.thread c.in-Some.next.distance some));
      },
      m.ensures.0,
    )

pub overflow_add-result : goal.overflow_add-result
overflow_add-result c =
    let e : c.make_fast_issues-fast.result.deferred ≡ false = not-true _ c.if-not-fast.true in
    let k = rw e at (c.make_fast_issues-fast.ensures.2 _ _ _ c.requires.2 c.loop-machine.invariant.3) in
    omega (arith, c.ranges.left, carried-within _ _ _ _ _ _ k.0.carried)

pub overflow_add-result-in-Some : goal.overflow_add-result-in-Some
overflow_add-result-in-Some c =
    let m = c.make_fast_issues-fast in
    let turn = c.choose in
    let e : c.make_fast_issues-fast.result.deferred ≡ false = not-true _ c.if-not-fast.true in
    let k = rw e at (c.make_fast_issues-fast.ensures.2 _ _ _ c.requires.2 c.loop-machine.invariant.3) in
    let h = (turned _ turn.result turn.ensures (Some c.in-Some.next) c.in-Some.is).0 in
    let f = (chooses _ c.in-Some.next.thread c.in-Some.next.distance).0 h in
    omega (arith, c.ranges.left, carried-within _ _ _ _ _ _ k.0.carried, f.high)

-- the slow path makes an issue
pub overflow_sub-rounds : goal.overflow_sub-rounds
overflow_sub-rounds c =
    let m = c.make_fast_issues-fast in
    let e : c.make_fast_issues-fast.result.deferred ≡ true = not-false _ c.if-not-fast.false in
    let k = rw e at (c.make_fast_issues-fast.ensures.2 _ _ _ c.requires.2 c.loop-machine.invariant.3) in
    awaited-some c.args.program.now _ _ c.args.machine c.args.turns.now m.new.registers m.new.memory c.requires.0
    (m.auto.registers ∙ c.loop-machine.invariant.1 ∙ c.requires.1) c.requires.2 _ _ _ k

-- and sets a status
pub returns-then-issued : goal.returns-then-issued
returns-then-issued c =
    let m = c.make_fast_issues-fast in
    let w = c.with_last-at.ensures in
    let e : c.make_fast_issues-fast.result.deferred ≡ true = not-false _ c.if-not-fast.false in
    let k = rw e at (c.make_fast_issues-fast.ensures.2 _ _ _ c.requires.2 c.loop-machine.invariant.3) in
    let regs : length m.new.registers ≡ 8704 = m.auto.registers ∙ c.loop-machine.invariant.1 ∙ c.requires.1 in
    let i = rw (w, c.many_more-had.ensures) at c.issue-issued.ensures.0 in (
      record {
        carried =
            awaited-made c.args.program.now _ _ c.args.machine c.args.turns.now m.new.registers m.new.memory c.requires.0
            regs c.requires.2 m.result.left m.result.passed m.result.last k _ i;
        within = omega (arith, k.along.within);
        some-made = λ e. omega (arith, k.along.within);
        over = λ stop e. cc;
        looks = omega arith;
      },
      rw (issue-last c.args.program.now (state (with_last c.args.machine m.result.last) m.new.registers m.new.memory) _ m.result.last _ c.requires.0 regs m.ensures.0 i) m.ensures.0,
    )

-- or none
pub loop-machine-preserved : goal.loop-machine-preserved
loop-machine-preserved c =
    let m = c.make_fast_issues-fast in
    let w = c.with_last-at.ensures in
    let e : c.make_fast_issues-fast.result.deferred ≡ true = not-false _ c.if-not-fast.false in
    let k = rw e at (c.make_fast_issues-fast.ensures.2 _ _ _ c.requires.2 c.loop-machine.invariant.3) in
    let regs : length m.new.registers ≡ 8704 = m.auto.registers ∙ c.loop-machine.invariant.1 ∙ c.requires.1 in
    let n = c.issue-issued in
    let i = rw (w, c.many_more-had.ensures) at n.ensures.0 in
    let j = rw (w, c.many_more-had.ensures) at n.ensures.1 in (
      m.ensures.0,
      n.auto.registers ∙ m.auto.registers ∙ c.loop-machine.invariant.1,
      n.auto.memory ∙ m.auto.memory ∙ c.loop-machine.invariant.2,
      awaited-on c.args.program.now _ _ c.args.machine c.args.turns.now m.new.registers m.new.memory c.requires.0
          regs c.requires.2 m.result.left m.result.passed m.result.last k n.new.registers n.new.memory
          (issue-untouched _ (state (with_last c.args.machine m.result.last) m.new.registers m.new.memory) _ _ _ i _ j c.if-issued.false),
    )

pub loop-machine-smaller : goal.loop-machine-smaller
loop-machine-smaller c =
    let m = c.make_fast_issues-fast in
    let e : m.result.deferred ≡ true = not-false _ c.if-not-fast.false in
    let l = rw e at m.ensures.1 in
    omega (arith, l)

pub overflow_cast-last-in-loop-machine : goal.overflow_cast-last-in-loop-machine
overflow_cast-last-in-loop-machine c = omega (arith, c.make_fast_issues-fast.ensures.0)

pub shape_of-registers-in-None : goal.shape_of-registers-in-None
shape_of-registers-in-None c = c.make_fast_issues-fast.auto.registers ∙ c.loop-machine.invariant.1

pub shape_of-memory-in-None : goal.shape_of-memory-in-None
shape_of-memory-in-None c = c.make_fast_issues-fast.auto.memory ∙ c.loop-machine.invariant.2

pub shape_of-registers-in-Some : goal.shape_of-registers-in-Some
shape_of-registers-in-Some c = c.make_fast_issues-fast.auto.registers ∙ c.loop-machine.invariant.1

pub shape_of-memory-in-Some : goal.shape_of-memory-in-Some
shape_of-memory-in-Some c = c.make_fast_issues-fast.auto.memory ∙ c.loop-machine.invariant.2

pub offset_bounds-turns-last : goal.offset_bounds-turns-last
offset_bounds-turns-last c = omega (arith, c.make_fast_issues-fast.ensures.0)

pub bounds-turns-last : goal.bounds-turns-last
bounds-turns-last c = omega (arith, c.make_fast_issues-fast.ensures.0)

pub shape_of-registers-then-issued : goal.shape_of-registers-then-issued
shape_of-registers-then-issued c = c.issue-issued.auto.registers ∙ c.make_fast_issues-fast.auto.registers ∙ c.loop-machine.invariant.1

pub shape_of-memory-then-issued : goal.shape_of-memory-then-issued
shape_of-memory-then-issued c = c.issue-issued.auto.memory ∙ c.make_fast_issues-fast.auto.memory ∙ c.loop-machine.invariant.2
