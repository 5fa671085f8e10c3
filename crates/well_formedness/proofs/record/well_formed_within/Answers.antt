-- `well_formed_within` meets its contract.
use mathlib.Core.Bool.{true, false}
use mathlib.Core.Logic.{⊎_elim}
use mathlib.Core.Path.{◌≡◌, refl, sym, ◌∙◌}
use native.Mathlib.Omega.{arith}
use lib.ListN.{length}
use Rattle.machine.specs.Search.{all}
use Rattle.well_formedness.proofs.Entries.{in_order, by_entries, no-mask, no_last}
use Rattle.machine.proofs.Loops.{from, look, stop}
use Rattle.well_formedness.proofs.record.well_formed_within.Goals as goal

pub returns-then-machine-eq0 : goal.returns-then-machine-eq0
returns-then-machine-eq0 c =
    let a = c.args in
    sym (⊎_elim (no-mask a.limits a.machine) (λ x. no_last a.limits a.machine x.1) c.then-machine-eq0.either)

pub loop-thread-init : goal.loop-thread-init
unfolding from
loop-thread-init c =
    let a = c.args in
    let eight : length a.machine.threads ≡ 8 = c.well_formed.0.1.1.1.0.1.0.1 in
    by_entries a.limits a.machine (omega (arith, c.if-machine-eq0.false)) (omega arith) (omega arith) eight

-- an entry is not in order
pub returns-then-not-entry_in_order : goal.returns-then-not-entry_in_order
unfolding all
returns-then-not-entry_in_order c =
    let l = c.loop-thread in
    let a = c.args in
    let h : in_order a.limits a.machine l.thread ≡ false = sym c.entry_in_order.ensures ∙ c.if-not-entry_in_order.true in
    sym (l.invariant ∙ look (all (in_order a.limits a.machine)) l.thread 8 c.loop-thread-test.true (rw h))

pub loop-thread-preserved : goal.loop-thread-preserved
unfolding all
loop-thread-preserved c =
    let l = c.loop-thread in
    let a = c.args in
    let h : in_order a.limits a.machine l.thread ≡ true = sym c.entry_in_order.ensures ∙ c.if-not-entry_in_order.false in
    l.invariant ∙ look (all (in_order a.limits a.machine)) l.thread 8 c.loop-thread-test.true (rw h)

pub returns : goal.returns
unfolding all
returns c =
    let l = c.loop-thread in
    let a = c.args in
    sym (l.invariant ∙ stop (all (in_order a.limits a.machine)) l.thread 8 c.loop-thread-test.false refl)
