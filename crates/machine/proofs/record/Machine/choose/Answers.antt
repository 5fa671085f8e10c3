-- `choose` meets its contract.
use Prim.Native.Nat.{ℕ, ◌+◌, ◌*◌, ◌/◌, ◌%◌, ◌^◌, ◌<◌, ◌≤◌}
use mathlib.Core.Path.{◌≡◌, refl, sym, ap, ◌∙◌}
use native.Mathlib.Omega.{arith}
use Rattle.std.specs.Prelude.{Option, None}
use lib.Count.{count_trailing_zeros}
use Rattle.machine.specs.Scheduler.{after, some_chosen, choice, with_last, after_choice, choose}
use Rattle.machine.specs.Types.{Machine, Chosen}
use Rattle.machine.proofs.Choosing.{mask, mask-small, zeros, nothing-set, one_set, following}
use Rattle.machine.proofs.record.Machine.choose.Goals as goal

-- a turn by its choice
turn : (m : Machine) (c : Option Chosen) → choice m ≡ c → record { choice = c; machine = after_choice m c } ≡ choose m
unfolding choose
turn m c e = ap (λ (x : Option Chosen). record { choice = x; machine = after_choice m x }) (sym e)

-- what the code computes of the mask r of the running threads
record Computed (m : Machine) (r : ℕ) : Type 0 where
  small : r ≤ 255
  following-is : r / 2 ^ ((m.last % 8 + 1) % 8) % 2 ≡ 1 → choice m ≡ some_chosen ((m.last % 8 + 1) % 8) 1
  near : count_trailing_zeros 32 (r * 257 / 2 ^ (m.last % 8 + 1)) < 8
  lowest-is : choice m ≡ some_chosen (after m (count_trailing_zeros 32 (r * 257 / 2 ^ (m.last % 8 + 1)) + 1)) (count_trailing_zeros 32 (r * 257 / 2 ^ (m.last % 8 + 1)) + 1)

computed : (m : Machine) (r : ℕ) → r ≡ mask m → (r ≡ 0 → ⊥) → Computed m r
unfolding zeros
computed m r e h =
    let f = one_set m (λ z. h (e ∙ z)) in
    record {
      small = omega (arith, mask-small m);
      following-is = rw e (following m ((m.last % 8 + 1) % 8) refl);
      near = rw e f.0;
      lowest-is = rw e f.1;
    }

pub returns-then-mask-eq0 : goal.returns-then-mask-eq0
returns-then-mask-eq0 c =
    let m = c.args.self in
    turn m None (nothing-set m (sym c.running_mask-mask.ensures ∙ c.if-mask-eq0.true))

-- the next thread is running
pub returns-then-mask-following-eq1 : goal.returns-then-mask-following-eq1
returns-then-mask-following-eq1 c = turn c.args.self _ ((computed c.args.self c.running_mask-mask.result c.running_mask-mask.ensures c.if-mask-eq0.false).following-is c.if-mask-following-eq1.true)

pub returns : goal.returns
returns c =
    let m = c.args.self in
    let k = computed c.args.self c.running_mask-mask.result c.running_mask-mask.ensures c.if-mask-eq0.false in
    let d = count_trailing_zeros 32 (c.running_mask-mask.result * 257 / 2 ^ (m.last % 8 + 1)) + 1 in
    let e : (m.last % 8 + d) % 8 ≡ after m d = omega arith in
    ap (λ (t : ℕ). record { choice = some_chosen t d; machine = with_last m t }) e ∙ turn m (some_chosen (after m d) d) k.lowest-is

pub overflow_mul-ahead : goal.overflow_mul-ahead
overflow_mul-ahead c = let k = computed c.args.self c.running_mask-mask.result c.running_mask-mask.ensures c.if-mask-eq0.false in omega arith

pub overflow_cast-distance : goal.overflow_cast-distance
overflow_cast-distance c = let k = computed c.args.self c.running_mask-mask.result c.running_mask-mask.ensures c.if-mask-eq0.false in omega arith

pub overflow_add-distance : goal.overflow_add-distance
overflow_add-distance c = let k = computed c.args.self c.running_mask-mask.result c.running_mask-mask.ensures c.if-mask-eq0.false in omega arith

pub overflow_add-thread : goal.overflow_add-thread
overflow_add-thread c = let k = computed c.args.self c.running_mask-mask.result c.running_mask-mask.ensures c.if-mask-eq0.false in omega arith
