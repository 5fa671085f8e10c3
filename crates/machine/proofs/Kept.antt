-- What a trap, an end and a new "last" leave of a well-formed record.
use Prim.Native.Nat.{ℕ, ◌<◌, ◌≤◌}
use mathlib.Core.Bool.{true, false}
use mathlib.Core.Logic.{◌⊎◌, inl, inr, ⊎_elim, ◌↔◌}
use mathlib.Core.Path.{◌≡◌, refl, sym, ap, ◌∙◌}
use native.Mathlib.Decide.{ℕ_discrete, dec_lt}
use native.Mathlib.Omega.{arith}
use borrow.Author.Tests.{le-leb, eqb-true, eq-eqb}
use lib.ListN.{length, get_or, length-set, get_or-eq_default}
use lib.Seq.{get_or-set_same, get_or-set_other, map-set_same}
use Rattle.bits.specs.Bit.{bit}
use Rattle.machine.specs.Claims.{WellFormed, KeepsRecord, Traps, Ends, Issued, RunningEnabled}
use Rattle.thread_entry.specs.Entry.{zero_thread, with_status}
use Rattle.machine.specs.Machine.{status_at, with_status_at, turns_of}
use Rattle.thread_entry.specs.Status.{limits, is_idle, is_running, is_waiting, waits_at, carries_in_range}
use Rattle.machine.specs.WellFormed.{waiting}
use Rattle.machine.specs.Scheduler.{runs, with_last}
use Rattle.machine.specs.Types.{Status, Idle, Running, Ended, Trapped, Waiting, Machine}
use Rattle.machine.proofs.Conditions.{is-thread, trapped-range, tested}
use Rattle.machine.proofs.Tests.{never}
use Rattle.machine.proofs.Threads.{count-le}

-- Statuses.

pub running-idle : (s : Status) → is_running s ≡ true → is_idle s ≡ false
running-idle Idle h = never h refl
running-idle Running h = refl
running-idle Ended h = refl
running-idle (Trapped reason) h = refl
running-idle (Waiting id count) h = refl

-- a status that waits at a barrier
pub waits : (id : ℕ) (s : Status) → waits_at id s ≡ true → (count : ℕ) × (s ≡ Waiting id count)
waits id Idle h = never h refl
waits id Running h = never h refl
waits id Ended h = never h refl
waits id (Trapped reason) h = never h refl
waits id (Waiting i count) h = (count, ap (λ x. Waiting x count) (eqb-true i id h))

-- Changes that leave no thread waiting that did not wait before.

-- a status that is not idle becomes one that is neither idle nor waiting
pub record Calm (s r : Status) : Type 0 where
  pub was : is_idle s ≡ false
  pub idle : is_idle r ≡ false
  pub waits : is_waiting r ≡ false
  pub carried : carries_in_range limits r ≡ true

pub record Change (m n : Machine) : Type 0 where
  pub enabled : n.enabled ≡ m.enabled
  pub last : n.last ≤ 7
  pub entries : length n.threads ≡ 8
  pub each : (u : ℕ) → (status_at n u ≡ status_at m u) ⊎ Calm (status_at m u) (status_at n u)

module _ (m n : Machine) (w : WellFormed m) (c : Change m n) where
  -- who waits waited before
  waited : (u id count : ℕ) → status_at n u ≡ Waiting id count → status_at m u ≡ Waiting id count
  waited u id count e =
      ⊎_elim (λ f. sym f ∙ e) (λ k. never (ap is_waiting e) k.waits) (c.each u)

  fewer-wait : (id : ℕ) → waiting n id ≤ waiting m id
  fewer-wait id =
      count-le (λ u. waits_at id (status_at n u)) (λ u. waits_at id (status_at m u))
      (λ u l h. let x = waits id (status_at n u) h in ap (waits_at id) (waited u id x.0 x.1) ∙ eq-eqb id id refl)

  idle-still : (u : ℕ) → u < 8 → (status_at n u ≡ Idle) ↔ (bit n.enabled u ≡ 0)
  idle-still u l =
      ⊎_elim
      (λ f. ((λ e. ap (λ x. bit x u) c.enabled ∙ (w.idle u l).0 (sym f ∙ e)), (λ e. f ∙ (w.idle u l).1 (sym (ap (λ x. bit x u) c.enabled) ∙ e))))
      (λ k. (
        (λ e. never (ap is_idle e) k.idle),
        (λ e. never (ap is_idle ((w.idle u l).1 (sym (ap (λ x. bit x u) c.enabled) ∙ e))) k.was),
      ))
      (c.each u)

  pub kept : WellFormed n
  kept =
      record {
        mask-range = (omega (arith, w.mask-range, c.enabled), omega (arith, w.mask-range, c.enabled));
        last-range = c.last;
        entries = c.entries;
        reason-range = λ u reason e.
            ⊎_elim (λ f. w.reason-range u reason (sym f ∙ e)) (λ k. trapped-range limits reason (sym (ap (carries_in_range limits) e) ∙ k.carried)) (c.each u);
        waiting-range = λ u id count e. w.waiting-range u id count (waited u id count e);
        idle = idle-still;
        agreed = λ t u id a b e f. w.agreed t u id a b (waited t id a e) (waited u id b f);
        fewer = λ u id count e. let x = w.fewer u id count (waited u id count e) in let y = fewer-wait id in omega arith;
      }

-- One thread's status set.

module _ (m : Machine) (t : ℕ) (s : Status) where
  pub set_same : t < length m.threads → status_at (with_status_at m t s) t ≡ s
  set_same l = ap (λ e. e.status) (get_or-set_same m.threads t (with_status (get_or m.threads t zero_thread) s) zero_thread l)

  pub set_other : (u : ℕ) → (u ≡ t → ⊥) → status_at (with_status_at m t s) u ≡ status_at m u
  set_other u n = ap (λ e. e.status) (get_or-set_other m.threads t u (with_status (get_or m.threads t zero_thread) s) zero_thread n)

  pub set-entries : length (with_status_at m t s).threads ≡ length m.threads
  set-entries = length-set m.threads t (with_status (get_or m.threads t zero_thread) s)

  pub set-turns : turns_of (with_status_at m t s) ≡ turns_of m
  unfolding turns_of
  set-turns = map-set_same (λ entry. entry.turns) m.threads t (with_status (get_or m.threads t zero_thread) s) zero_thread refl

  pub set-running : (u : ℕ) → (u ≡ t → ⊥) → runs m u ≡ true → runs (with_status_at m t s) u ≡ true
  set-running u n h = ap is_running (set_other u n) ∙ h

-- a running thread has an entry
pub running-entry : (m : Machine) (t : ℕ) → runs m t ≡ true → t < length m.threads
running-entry m t r = go (dec_lt t (length m.threads))
  where
    go : Dec (t < length m.threads) → t < length m.threads
    go (yes l) = l
    go (no l) = never r (ap (λ x. is_running x.status) (get_or-eq_default m.threads zero_thread (omega (arith, l))))

-- a running thread is one of the eight
pub running-thread : (m : Machine) (t : ℕ) → WellFormed m → runs m t ≡ true → t < 8
running-thread m t w r = is-thread m w.entries t (running-idle (status_at m t) r)

-- a running thread gets a status that is neither idle nor waiting
calmed : (m : Machine) (t : ℕ) (s : Status) → is_idle s ≡ false → is_waiting s ≡ false → carries_in_range limits s ≡ true → KeepsRecord m t (with_status_at m t s)
calmed m t s idle waits carried =
    record {
      enabled = refl;
      last = refl;
      running = set-running m t s;
      well-formed = λ h r. (tested limits (with_status_at m t s)).1 (still ((tested limits m).0 h) r);
    }
  where
    each : WellFormed m → runs m t ≡ true → (u : ℕ) → Dec (u ≡ t)
        → (status_at (with_status_at m t s) u ≡ status_at m u) ⊎ Calm (status_at m u) (status_at (with_status_at m t s) u)
    each w r u (yes e) =
        let l = running-thread m t w r in
        let f : status_at (with_status_at m t s) u ≡ s = ap (status_at (with_status_at m t s)) e ∙ set_same m t s (omega (arith, w.entries)) in
        inr (record {
          was = ap (λ x. is_idle (status_at m x)) e ∙ running-idle (status_at m t) r;
          idle = ap is_idle f ∙ idle;
          waits = ap is_waiting f ∙ waits;
          carried = ap (carries_in_range limits) f ∙ carried;
        })
    each w r u (no e) = inl (set_other m t s u e)

    still : WellFormed m → runs m t ≡ true → WellFormed (with_status_at m t s)
    still w r =
        kept m (with_status_at m t s) w
        (record { enabled = refl; last = w.last-range; entries = set-entries m t s ∙ w.entries; each = λ u. each w r u (ℕ_discrete u t) })

pub traps : Traps
traps m t reason a b = calmed m t (Trapped reason) refl refl (rw (le-leb 1 reason a, le-leb reason 6 b))

pub ends : Ends
ends m t = calmed m t Ended refl refl refl

pub issues : Issued
issues m t l h =
    let w = (tested limits m).0 h in
    (tested limits (with_last m t)).1 (kept m (with_last m t) w (record { enabled = refl; last = omega arith; entries = w.entries; each = λ u. inl refl }))

-- a running thread is enabled
pub enabled : RunningEnabled
enabled m t h r =
    let w = (tested limits m).0 h in
    let l = running-thread m t w r in
    let n : bit m.enabled t ≡ 0 → ⊥ = λ z. never (ap is_idle ((w.idle t l).1 z)) (running-idle (status_at m t) r) in
    (l, omega (arith, n))
