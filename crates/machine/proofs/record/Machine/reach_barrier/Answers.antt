-- `reach_barrier` meets its contract.
use Rattle.std.proofs.Common.{◌≡◌, ℕ, ◌≤◌, true, false, ◌||◌, arith, ltb}
use borrow.Author.Tests.{ltb-false}
use Rattle.machine.specs.Barrier.{refuses_barrier, reach_barrier}
use Rattle.machine.proofs.Tests.{neither}
use Rattle.machine.proofs.record.Machine.reach_barrier.Goals as goal

-- the values of a meeting that goes on
in-range : (id second : ℕ) {b : ℕ} → b ≡ 31 → (ltb b id || ltb 7 second) ≡ false → (id ≤ 31) × (second ≤ 7)
in-range id second {b} e h = let f = neither (ltb b id) (ltb 7 second) h in (omega (arith, ltb-false b id f.0), ltb-false 7 second f.1)

pub returns-then-from-id : goal.returns-then-from-id
unfolding reach_barrier refuses_barrier
returns-then-from-id c =
    let e : (ltb 31 c.args.id || ltb 7 c.args.second) ≡ true = rw c.from.ensures at c.if-from-id.true in
    rw (e, c.trap.ensures, c.number.ensures)

pub returns : goal.returns
unfolding reach_barrier refuses_barrier
returns c =
    let e : (ltb 31 c.args.id || ltb 7 c.args.second) ≡ false = rw c.from.ensures at c.if-from-id.false in
    rw e c.arrive.ensures

pub overflow_cast-id : goal.overflow_cast-id
overflow_cast-id c = omega (arith, (in-range c.args.id c.args.second c.from.ensures c.if-from-id.false).0)

pub overflow_add-second : goal.overflow_add-second
overflow_add-second c = omega (arith, (in-range c.args.id c.args.second c.from.ensures c.if-from-id.false).1)

pub overflow_cast-second : goal.overflow_cast-second
overflow_cast-second c = omega (arith, (in-range c.args.id c.args.second c.from.ensures c.if-from-id.false).1)
