-- `running::make_thread_issues` meets its contract: each issue is the rules' next one, as long as the thread was "last" already.
use Prim.Native.Nat.{◌+◌, ◌-◌}
use mathlib.Core.Path.{◌≡◌, refl, sym, ap, ◌∙◌}
use native.Mathlib.Omega.{arith}
use borrow.Author.Tests.{eqb-false}
use lib.Dec.{eqb}
use Rattle.machine.specs.Scheduler.{choice, with_last}
use Rattle.machine.proofs.Tests.{neither}
use Rattle.interpreter.proofs.Issuing.{along-step}
use Rattle.interpreter.proofs.running.make_thread_issues.Goals as goal

pub loop-thread-init : goal.loop-thread-init
loop-thread-init c =
    (c.requires.0, omega arith, refl, refl, omega arith, λ b first m turns last words regs size same h k. record { before = last; along = k; chosen = h })

-- the word is left to the slow path
pub returns-then-not-try_word : goal.returns-then-not-try_word
returns-then-not-try_word c =
    let l = c.loop-thread in
    let tried = c.try_word in
    let stays = rw (c.if-not-try_word.true) at tried.ensures in
    let back : l.left - 1 + 1 ≡ l.left = omega (arith, l.invariant.0) in
    record {
      last = refl;
      fewer = omega (arith, l.invariant.0, l.invariant.1);
      bound = omega (arith, l.invariant.0, l.invariant.4, c.requires.1);
      goes =
          λ b first m turns last words regs size same h k.
          let q = l.invariant.5 b first m turns last words regs size same h k in
          record {
            before = q.before;
            until = l.passed;
            distance = c.args.distance;
            along = rw (stays.0, stays.1, back) q.along;
            chosen = q.chosen;
            sum = refl;
          };
    }

-- it is executed, and the thread issued no more
pub returns-then-left-others : goal.returns-then-left-others
returns-then-left-others c =
    let l = c.loop-thread in
    let tried = c.try_word in
    let made = rw (c.if-not-try_word.false) at tried.ensures in
    record {
      last = refl;
      fewer = omega (arith, l.invariant.0, l.invariant.1);
      bound = omega (arith, l.invariant.0, l.invariant.4, c.requires.1);
      goes =
          λ b first m turns last words regs size same h k.
          let q = l.invariant.5 b first m turns last words regs size same h k in
          along-step c.args.program.now b first m turns l.registers l.memory words (l.invariant.2 ∙ regs) size l.left l.passed
          q.before c.args.thread c.args.distance q.along q.chosen l.invariant.0 _ _ (made _ _).0;
    }

-- or issued again: the record is the same
pub loop-thread-preserved : goal.loop-thread-preserved
loop-thread-preserved c =
    let l = c.loop-thread in
    let tried = c.try_word in
    let made = rw (c.if-not-try_word.false) at tried.ensures in
    let on = neither (eqb (l.left - 1) 0) c.args.others c.if-left-others.false in (
      omega (arith, eqb-false (l.left - 1) 0 on.0),
      omega (arith, l.invariant.1),
      tried.auto.regs ∙ l.invariant.2,
      tried.auto.memory ∙ l.invariant.3,
      omega (arith, l.invariant.0, l.invariant.4, c.requires.1),
      λ b first m turns last words regs size same h k.
          let q = l.invariant.5 b first m turns last words regs size same h k in
          record {
            before = c.args.thread;
            along =
                along-step c.args.program.now b first m turns l.registers l.memory words (l.invariant.2 ∙ regs) size l.left l.passed
                q.before c.args.thread c.args.distance q.along q.chosen l.invariant.0 _ _ (made _ _).0;
            chosen = ap (λ n. choice (with_last m n)) (sym (same on.1)) ∙ h;
          },
    )

pub overflow_add-passed : goal.overflow_add-passed
overflow_add-passed c = let l = c.loop-thread in omega (arith, l.invariant.4, c.requires.1, c.requires.2, l.invariant.0)

pub overflow_sub-left : goal.overflow_sub-left
overflow_sub-left c = omega (arith, c.loop-thread.invariant.0)

pub shape_of-registers-then-not-try_word : goal.shape_of-registers-then-not-try_word
shape_of-registers-then-not-try_word c = c.try_word.auto.regs ∙ c.loop-thread.invariant.2

pub shape_of-memory-then-not-try_word : goal.shape_of-memory-then-not-try_word
shape_of-memory-then-not-try_word c = c.try_word.auto.memory ∙ c.loop-thread.invariant.3

pub shape_of-registers-then-left-others : goal.shape_of-registers-then-left-others
shape_of-registers-then-left-others c = c.try_word.auto.regs ∙ c.loop-thread.invariant.2

pub shape_of-memory-then-left-others : goal.shape_of-memory-then-left-others
shape_of-memory-then-left-others c = c.try_word.auto.memory ∙ c.loop-thread.invariant.3

pub loop-thread-smaller : goal.loop-thread-smaller
loop-thread-smaller c = omega (arith, c.loop-thread.invariant.0)
