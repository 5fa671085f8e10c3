-- Laws of a meeting at a barrier.
use Prim.Native.Nat.{ℕ, ◌+◌, ◌≤◌}
use mathlib.Core.Bool.{Bool, true, false, ◌&&◌, ◌||◌, not}
use mathlib.Core.Path.{◌≡◌, refl}
use borrow.Author.Tests.{ltb-false}
use lib.Dec.{ltb, eqb}
use Rattle.machine.specs.Barrier.{released, refuses_barrier}
use Rattle.machine.specs.Machine.{status_at}
use Rattle.thread_entry.specs.Entry.{with_status}
use Rattle.thread_entry.specs.Status.{is_waiting, waits_at, waits_otherwise}
use Rattle.machine.specs.WellFormed.{disputed}
use Rattle.machine.specs.Types.{Status, Idle, Running, Ended, Trapped, Waiting, Thread, Machine}
use Rattle.machine.proofs.Tests.{never, neither}

-- thread u waits at the barrier, is another that waits there, and disputes the count
abbrev pub waits_here : Machine → ℕ → ℕ → Bool
waits_here m id u = waits_at id (status_at m u)

abbrev pub other_waits : Machine → ℕ → ℕ → ℕ → Bool
other_waits m thread id u = not (eqb u thread) && waits_at id (status_at m u)

abbrev pub disputes : Machine → ℕ → ℕ → ℕ → ℕ → Bool
disputes m thread id count u = not (eqb u thread) && waits_otherwise id count (status_at m u)

-- an entry once a barrier is released
abbrev pub freed : ℕ → Thread → Thread
freed id entry = with_status entry (released id entry.status)

-- who does not wait, waits nowhere, and who does not wait there does not name another count there
pub waits-nowhere : (id : ℕ) (s : Status) → is_waiting s ≡ false → waits_at id s ≡ false
waits-nowhere id Idle h = refl
waits-nowhere id Running h = refl
waits-nowhere id Ended h = refl
waits-nowhere id (Trapped reason) h = refl
waits-nowhere id (Waiting i c) h = never refl h

pub names-nothing : (id count : ℕ) (s : Status) → waits_at id s ≡ false → waits_otherwise id count s ≡ false
names-nothing id count Idle h = refl
names-nothing id count Running h = refl
names-nothing id count Ended h = refl
names-nothing id count (Trapped reason) h = refl
names-nothing id count (Waiting i c) h = rw h

-- One thread's look at the others: it does not count, or it does, and then may dispute.
pub skips : (m : Machine) (thread id count u : ℕ) → other_waits m thread id u ≡ false → disputes m thread id count u ≡ false
skips m thread id count u h = go (not (eqb u thread)) (waits_at id (status_at m u)) h (names-nothing id count (status_at m u))
  where
    go : (a b : Bool) → (a && b) ≡ false → (b ≡ false → waits_otherwise id count (status_at m u) ≡ false)
        → (a && waits_otherwise id count (status_at m u)) ≡ false
    go true b h f = f h
    go false b h f = refl

-- a meeting that does not trap
pub record Admitted (m : Machine) (t id second : ℕ) : Type 0 where
  pub id-fits : id ≤ 31
  pub second_fits : second ≤ 7
  pub agreed : disputed m t id (second + 1) ≡ false

pub admitted : (m : Machine) (t id second : ℕ) → refuses_barrier m t id second ≡ false → Admitted m t id second
unfolding refuses_barrier
admitted m t id second h =
    let a = neither (ltb 31 id || ltb 7 second) (disputed m t id (second + 1)) h in
    let b = neither (ltb 31 id) (ltb 7 second) a.0 in
    record { id-fits = ltb-false 31 id b.0; second_fits = ltb-false 7 second b.1; agreed = a.1 }
