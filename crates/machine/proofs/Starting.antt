-- The record that start makes is well formed.
use Prim.Native.Nat.{ℕ, zero, suc, ◌+◌, ◌<◌, ◌≤◌}
use mathlib.Core.Bool.{Bool, true, false, cond}
use mathlib.Core.List.{map}
use mathlib.Core.Logic.{◌↔◌}
use mathlib.Core.Path.{◌≡◌, refl, sym, ap, ◌∙◌}
use native.Mathlib.Omega.{arith}
use borrow.Author.Tests.{eqb-true, eq-eqb}
use lib.Dec.{eqb}
use lib.ListN.{length, get_or}
use Rattle.bits.specs.Bit.{bit}
use Rattle.machine.specs.Claims.{Started}
use Rattle.thread_entry.specs.Entry.{zero_thread, with_status}
use Rattle.machine.specs.Machine.{status_at, start_status, start}
use Rattle.thread_entry.specs.Status.{limits, is_idle, is_running, is_waiting}
use Rattle.machine.specs.Types.{Status, Idle, Running, Trapped, Waiting, Thread}
use Rattle.machine.proofs.Conditions.{is-thread, tested}
use Rattle.machine.proofs.Loops.{from}
use Rattle.machine.proofs.Tests.{never}

-- an entry of a list made from the numbers from k up
made_at : (f : ℕ → Thread) (k n t : ℕ) → t < n → get_or (map f (from k n)) t zero_thread ≡ f (k + t)
unfolding from
made_at f k zero t l = absurd (omega arith)
made_at f k (suc n) zero l = ap f (omega arith)
made_at f k (suc n) (suc t) l = made_at f (suc k) n t (omega arith) ∙ ap f (omega arith)

start-status : (mask t : ℕ) → t < 8 → status_at (start mask) t ≡ start_status mask t
unfolding start from
start-status mask t l = ap (λ e. e.status) (made_at (λ u. with_status zero_thread (start_status mask u)) 0 8 t l ∙ ap (λ u. with_status zero_thread (start_status mask u)) (omega arith))

start-entries : (mask : ℕ) → length (start mask).threads ≡ 8
unfolding start
start-entries mask = refl

start-mask : (mask : ℕ) → (start mask).enabled ≡ mask
unfolding start
start-mask mask = refl

start-last : (mask : ℕ) → (start mask).last ≤ 7
unfolding start
start-last mask = omega arith

-- who is not idle is running
only-running : (mask t : ℕ) (s : Status) → status_at (start mask) t ≡ s → is_idle s ≡ false → s ≡ Running
only-running mask t s e h =
    let l = is-thread (start mask) (start-entries mask) t (ap is_idle e ∙ h) in
    go (eqb (bit mask t) 0) (sym e ∙ start-status mask t l)
  where
    go : (b : Bool) → s ≡ cond b Idle Running → s ≡ Running
    go true f = never (ap is_idle f) h
    go false f = f

none-waiting : {A : Type 0} (mask t id count : ℕ) → status_at (start mask) t ≡ Waiting id count → A
none-waiting mask t id count e = never refl (ap is_waiting (only-running mask t (Waiting id count) e refl))

idle-exactly : (mask t : ℕ) → t < 8 → (status_at (start mask) t ≡ Idle) ↔ (bit (start mask).enabled t ≡ 0)
idle-exactly mask t l =
    let e = ap (λ x. bit x t) (start-mask mask) in
    ((λ f. e ∙ to (eqb (bit mask t) 0) refl (sym (start-status mask t l) ∙ f)), (λ f. start-status mask t l ∙ ap (λ b. cond b Idle Running) (eq-eqb _ _ (sym e ∙ f))))
  where
    to : (b : Bool) → eqb (bit mask t) 0 ≡ b → cond b Idle Running ≡ Idle → bit mask t ≡ 0
    to true f g = eqb-true _ _ f
    to false f g = never (ap is_idle g) refl

pub started : Started
started mask a b = (
  (tested limits (start mask)).1
      (record {
        mask-range = (omega (arith, start-mask mask), omega (arith, start-mask mask));
        last-range = start-last mask;
        entries = start-entries mask;
        reason-range = λ t reason e. never refl (sym (ap is_running (only-running mask t (Trapped reason) e refl)));
        waiting-range = λ t id count e. none-waiting mask t id count e;
        idle = idle-exactly mask;
        agreed = λ t u id c d e f. none-waiting mask t id c e;
        fewer = λ t id count e. none-waiting mask t id count e;
      }),
  start-mask mask,
)
