-- `running_mask` meets its contract.
use Rattle.std.proofs.Common.{◌≡◌, ℕ, ◌^◌, ◌<◌, ◌≤◌, ◌+◌, refl, sym, ap, ◌∙◌, arith, add-one, cond, Bool, true, false}
use native.Mathlib.Omega.{arith}
use lib.Pow.{pow_mono}
use Rattle.machine.specs.Scheduler.{runs}
use Rattle.machine.specs.Search.{mask_of}
use Rattle.machine.proofs.Loops.{from}
use Rattle.machine.proofs.Nearest.{mask_of-lt, mask_of-more}
use Rattle.machine.proofs.record.Machine.running_mask.Goals as goal
use Rattle.machine.proofs.record.Machine.running_mask.Goals.{then-is_running, else-is_running}

-- one thread more: its bit is added where it is set
one_more : (p : ℕ → Bool) (t mask : ℕ) → mask ≡ mask_of p (from 0 t) → (b : Bool) → p t ≡ b → {r : ℕ} → r ≡ mask + cond b (2 ^ t) 0
    → r ≡ mask_of p (from 0 (t + 1))
one_more p t mask k b h e =
    let f : 0 + t ≡ t = omega arith in
    let g = mask_of-more p 0 t in
    rw (add-one, g, f, h, ← k) e

-- there is room for it
room : (p : ℕ → Bool) (t mask : ℕ) → mask ≡ mask_of p (from 0 t) → t < 8 → (mask ≤ 127) × (2 ^ t ≤ 128)
room p t mask k l =
    let seven : 2 ^ t ≤ 128 = pow_mono {j = 7} (omega arith) in
    (omega (arith, mask_of-lt p 0 t), seven)

pub loop-thread-init : goal.loop-thread-init
unfolding mask_of from
loop-thread-init c = refl

pub loop-thread-preserved : goal.loop-thread-preserved
loop-thread-preserved c =
    let l = c.loop-thread in
    let m = c.args.self in
    let r = room (runs m) l.thread l.mask l.invariant c.loop-thread-test.true in
    elim c.if-is_running.branch [
      | then-is_running w ↦
          one_more (runs m) l.thread l.mask l.invariant true (sym c.is_running.ensures ∙ w.if-is_running.true) (w.mask-is ∙ omega arith)
      | else-is_running w ↦
          one_more (runs m) l.thread l.mask l.invariant false (sym c.is_running.ensures ∙ w.if-is_running.false) (w.mask-is ∙ omega arith)
    ]

pub overflow_add-mask : goal.overflow_add-mask
overflow_add-mask c =
    let r = room (runs c.args.self) c.loop-thread.thread c.loop-thread.mask c.loop-thread.invariant c.loop-thread-test.true in
    omega arith

pub returns : goal.returns
unfolding from
returns c =
    let e : c.loop-thread.thread ≡ 8 = omega arith in
    c.loop-thread.invariant ∙ ap (λ n. mask_of (runs c.args.self) (from 0 n)) e
