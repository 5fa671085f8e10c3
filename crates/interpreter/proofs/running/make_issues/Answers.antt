-- `running::make_issues` meets its contract: the issues made so far and those that the rules make from there are those of the run.
use Prim.Native.Nat.{◌-◌}
use mathlib.Core.Path.{◌≡◌, refl, ap, ◌∙◌}
use native.Mathlib.Omega.{arith}
use lib.ListN.{length}
use Rattle.machine.specs.Machine.{with_turns}
use Rattle.machine.specs.State.{state, recounted}
use Rattle.machine.proofs.Claims.{counts-kept, rounds-counted}
use Rattle.interpreter.proofs.Issuing.{carried-start, carried-further, goes_on, looks-over, ends}
use Rattle.interpreter.proofs.Runs.{carried-within, stretched-within}
use Rattle.interpreter.proofs.running.make_issues.Goals as goal

pub loop-stop-init : goal.loop-stop-init
loop-stop-init c =
    let a = c.args in
    let e : with_turns a.machine c.turns-turns.result ≡ a.machine = ap (with_turns a.machine) c.turns-turns.ensures.0 ∙ counts-kept.put-own a.machine in
    let f : a.budget - a.budget ≡ 0 = omega arith in
    (omega arith, refl, refl, c.turns-turns.ensures.1, rw (e, f) (carried-start _ _ _), c.requires.2)

pub make_stretch-stretch-requires : goal.make_stretch-stretch-requires
make_stretch-stretch-requires c =
    let l = c.loop-stop in
    (c.requires.0, l.invariant.1 ∙ c.requires.1, l.invariant.3, l.invariant.5)

pub overflow_add-looks : goal.overflow_add-looks
overflow_add-looks c =
    let m = c.make_stretch-stretch in
    let l = c.loop-stop in
    omega (arith, c.ranges.budget, l.invariant.0, carried-within _ _ _ _ _ _ l.invariant.4, stretched-within _ _ _ m.result _ m.ensures.0)

-- nothing more is issued
pub returns-in-Some : goal.returns-in-Some
returns-in-Some c =
    let put = c.with_turns.ensures in
    let rounds = c.count_rounds-rounds.ensures in
    let m = c.make_stretch-stretch in
    let l = c.loop-stop in
    let stop = c.in-Some.stop in
    let further = carried-further _ _ _ l.left l.looks (recounted (state l.machine l.registers l.memory) l.turns) l.invariant.4 l.invariant.0
    m.result.left m.result.passed _ m.ensures.0.carried m.ensures.0.within in
    rw (put, rounds)
    (ends _ _ _ m.result.left _ _ further (omega (arith, l.invariant.0, m.ensures.0.within)) stop (m.ensures.0.over stop c.in-Some.is) _
    (omega (arith, looks-over _ _ _ m.result _ m.ensures.0 stop c.in-Some.is)))

-- both lent buffers keep their lengths
pub shape_of-registers-in-Some : goal.shape_of-registers-in-Some
shape_of-registers-in-Some c = c.make_stretch-stretch.auto.registers ∙ c.loop-stop.invariant.1

pub shape_of-memory-in-Some : goal.shape_of-memory-in-Some
shape_of-memory-in-Some c = c.make_stretch-stretch.auto.memory ∙ c.loop-stop.invariant.2

pub loop-stop-smaller : goal.loop-stop-smaller
loop-stop-smaller c =
    let m = c.make_stretch-stretch in
    m.ensures.0.some-made (c.in_default.is)

pub loop-stop-preserved : goal.loop-stop-preserved
loop-stop-preserved c =
    let rounds = c.count_rounds-rounds.ensures in
    let m = c.make_stretch-stretch in
    let l = c.loop-stop in
    let changed = c.in_default.is in
    let further = carried-further _ _ _ l.left l.looks (recounted (state l.machine l.registers l.memory) l.turns) l.invariant.4 l.invariant.0
    m.result.left m.result.passed _ m.ensures.0.carried m.ensures.0.within in (
      omega (arith, l.invariant.0, m.ensures.0.within),
      m.auto.registers ∙ l.invariant.1,
      m.auto.memory ∙ l.invariant.2,
      ap length rounds ∙ rounds-counted.size l.machine m.result.passed l.turns ∙ l.invariant.3,
      rw (rounds, goes_on _ _ _ m.result _ m.ensures.0 changed) further,
      m.ensures.1,
    )

pub overflow_sub-result : goal.overflow_sub-result
overflow_sub-result c = omega (arith, c.loop-stop.invariant.0, c.make_stretch-stretch.ensures.0.within)
