-- `count_rounds` meets its contract: so far the counts of the threads passed are right, and the others as they were.
use Rattle.std.proofs.Common.{◌≡◌, ◌<◌, refl, sym, ap, ◌∙◌, length, set, arith}
use lib.Seq.{set-get_or}
use Rattle.machine.specs.Rounds.{between, issues_within}
use Rattle.machine.proofs.Loops.{changed}
use Rattle.turn_counts.proofs.Counting.{with, all-with, rounds-in-two, counts, stays}
use Rattle.turn_counts.proofs.rounds.count_rounds.Goals as goal
use Rattle.turn_counts.proofs.rounds.count_rounds.Goals.{then-running, else-running}

pub loop-thread-init : goal.loop-thread-init
unfolding changed
loop-thread-init c = refl

pub loop-thread-preserved : goal.loop-thread-preserved
loop-thread-preserved c =
    let l = c.loop-thread in
    let a = c.args in
    let small : l.thread < length a.turns = omega (arith, c.well_formed.1.0.1.0.1) in
    let near = between a.machine l.thread in
    elim c.if-running.branch [
      | then-running x ↦
          x.has-items-is
          ∙ ap (set l.has-items l.thread) (rw (x.from.ensures, x.between.ensures, rounds-in-two a.passed near (omega arith)) at x.many_more.ensures)
          ∙ counts a.machine a.passed a.turns l.thread l.has-items small l.invariant (sym c.is_running-running.ensures ∙ x.if-running.true)
      | else-running x ↦
          x.has-items-is
          ∙ set-get_or l.has-items l.thread 0
          ∙ stays a.machine a.passed a.turns l.thread l.has-items small l.invariant (sym c.is_running-running.ensures ∙ x.if-running.false)
    ]

pub returns : goal.returns
returns c =
    let l = c.loop-thread in
    let a = c.args in
    let e : l.thread ≡ length a.turns = omega (arith, c.well_formed.1.0.1.0.1) in
    l.invariant ∙ ap (changed (with a.machine a.passed) a.turns) e ∙ all-with (issues_within a.machine a.passed) a.turns
