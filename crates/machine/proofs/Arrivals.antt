-- What a meeting at a barrier leaves of a well-formed record.
use Prim.Native.Nat.{ℕ, ◌+◌, ◌<◌, ◌≤◌}
use mathlib.Core.Bool.{Bool, true, false, cond}
use mathlib.Core.Logic.{◌⊎◌, inl, inr, ⊎_elim, ◌↔◌}
use mathlib.Core.Path.{◌≡◌, refl, sym, ap, subst, ◌∙◌}
use native.Mathlib.Decide.{ℕ_discrete, dec_lt}
use native.Mathlib.Omega.{arith}
use borrow.Author.Tests.{le-leb, eq-eqb, eqb-false}
use lib.Dec.{eqb}
use lib.ListN.{length, length-map, get_or-map}
use Rattle.bits.specs.Bit.{bit}
use Rattle.machine.specs.Barrier.{released, release, release_if_met, arrive, refuses_barrier, reach_barrier}
use Rattle.machine.specs.Claims.{WellFormed, KeepsRecord, ReachesBarrier}
use Rattle.thread_entry.specs.Entry.{zero_thread, with_status}
use Rattle.machine.specs.Machine.{status_at, with_status_at, trap}
use Rattle.thread_entry.specs.Status.{limits, is_idle, is_running, is_waiting, waits_at, carries_in_range}
use Rattle.machine.specs.WellFormed.{waiting, disputed}
use Rattle.machine.specs.Scheduler.{runs}
use Rattle.machine.specs.Types.{Status, Idle, Running, Ended, Trapped, Waiting, Machine, BarrierResult}
use Rattle.machine.proofs.Conditions.{waiting-ranges, undisputed, tested}
use Rattle.machine.proofs.Meetings.{admitted}
use Rattle.machine.proofs.Tests.{never}
use Rattle.machine.proofs.Threads.{counted, count-le, count-one-more}
use Rattle.machine.proofs.Kept.{running-idle, waits, Calm, kept, set_same, set_other, set-entries, set-running, running-thread, traps}

running-waits : (id : ℕ) (s : Status) → is_running s ≡ true → waits_at id s ≡ false
running-waits id Idle h = refl
running-waits id Running h = refl
running-waits id Ended h = refl
running-waits id (Trapped reason) h = refl
running-waits id (Waiting i count) h = never h refl

-- A barrier released.

release-status : (m : Machine) (id u : ℕ) → status_at (release m id) u ≡ released id (status_at m u)
unfolding release
release-status m id u = ap (λ e. e.status) (get_or-map (λ e. with_status e (released id e.status)) m.threads u zero_thread)

release-entries : (m : Machine) (id : ℕ) → length (release m id).threads ≡ length m.threads
unfolding release
release-entries m id = length-map m.threads (λ e. with_status e (released id e.status))

release-enabled : (m : Machine) (id : ℕ) → (release m id).enabled ≡ m.enabled
unfolding release
release-enabled m id = refl

release-last : (m : Machine) (id : ℕ) → (release m id).last ≡ m.last
unfolding release
release-last m id = refl

released-running : (id : ℕ) (s : Status) → is_running s ≡ true → is_running (released id s) ≡ true
released-running id s h = rw (running-waits id s h) h

-- a status stays, or is running instead of waiting
released-calm : (id : ℕ) (s : Status) → (released id s ≡ s) ⊎ Calm s (released id s)
released-calm id s = go (waits_at id s) refl
  where
    go : (b : Bool) → waits_at id s ≡ b → (cond b Running s ≡ s) ⊎ Calm s (cond b Running s)
    go true h = inr (record { was = ap is_idle (waits id s h).1; idle = refl; waits = refl; carried = refl })
    go false h = inl refl

-- A thread that waits.

module _ (m : Machine) (t id count : ℕ) where
  -- the record with the thread waiting
  abbrev met : Machine
  met = with_status_at m t (Waiting id count)

  -- who waits then is the thread, or waited before
  who : (l : t < length m.threads) (u i c : ℕ) → status_at met u ≡ Waiting i c
      → ((u ≡ t) × (id ≡ i) × (count ≡ c)) ⊎ ((u ≡ t → ⊥) × (status_at m u ≡ Waiting i c))
  who l u i c h = at (ℕ_discrete u t)
    where
      at : Dec (u ≡ t) → ((u ≡ t) × (id ≡ i) × (count ≡ c)) ⊎ ((u ≡ t → ⊥) × (status_at m u ≡ Waiting i c))
      at (yes e) =
          let f : Waiting id count ≡ Waiting i c = sym (set_same m t (Waiting id count) l) ∙ (sym (ap (status_at met) e) ∙ h) in
          inl (e, cc, cc)
      at (no e) = inr (e, sym (set_other m t (Waiting id count) u e) ∙ h)

  module _ (w : WellFormed m) (r : runs m t ≡ true) (fine : carries_in_range limits (Waiting id count) ≡ true) (agree : disputed m t id count ≡ false) where
    here : t < length m.threads
    here = let l = running-thread m t w r in omega (arith, w.entries)

    one_more : waiting met id ≤ waiting m id + 1
    one_more =
        count-one-more (λ u. waits_at id (status_at met u)) (λ u. waits_at id (status_at m u)) t
        (λ u n h. sym (ap (waits_at id) (set_other m t (Waiting id count) u n)) ∙ h)

    not_more : (i : ℕ) → (id ≡ i → ⊥) → waiting met i ≤ waiting m i
    not_more i n =
        count-le (λ u. waits_at i (status_at met u)) (λ u. waits_at i (status_at m u))
        (λ u l h.
        let x = waits i (status_at met u) h in
        ⊎_elim (λ y. absurd (n y.1)) (λ y. ap (waits_at i) y.1 ∙ eq-eqb i i refl) (who here u i x.0 x.1))

    -- another that waits there names the count
    same : (u c : ℕ) → status_at m u ≡ Waiting id c → count ≡ c
    same u c e = undisputed m w.entries t u id count c agree (λ f. never (ap (runs m) f ∙ r) (ap is_running e)) e

    -- there are no more than the count says
    at_most : waiting met id ≤ count
    at_most = go (dec_lt 0 (waiting m id))
      where
        go : Dec (0 < waiting m id) → waiting met id ≤ count
        go (yes l) =
            let x = counted (λ u. waits_at id (status_at m u)) l in
            let y = waits id (status_at m x.0) x.2 in
            let a = same x.0 y.0 y.1 in
            let b = w.fewer x.0 id y.0 y.1 in
            omega (arith, one_more)
        go (no l) = omega (arith, one_more, l, waiting-ranges limits id count fine)

    idle_met : (u : ℕ) → u < 8 → (status_at met u ≡ Idle) ↔ (bit m.enabled u ≡ 0)
    idle_met u l = at (ℕ_discrete u t)
      where
        at : Dec (u ≡ t) → (status_at met u ≡ Idle) ↔ (bit m.enabled u ≡ 0)
        at (yes e) =
            let a : is_idle (status_at met u) ≡ false = ap (λ x. is_idle (status_at met x)) e ∙ ap is_idle (set_same m t (Waiting id count) here) in
            let b : is_idle (status_at m u) ≡ false = ap (λ x. is_idle (status_at m x)) e ∙ running-idle (status_at m t) r in (
              (λ f. never (ap is_idle f) a),
              (λ f. never (ap is_idle ((w.idle u l).1 f)) b),
            )
        at (no e) =
            let a = set_other m t (Waiting id count) u e in
            ((λ f. (w.idle u l).0 (sym a ∙ f)), (λ f. a ∙ (w.idle u l).1 f))

    reasons-met : (u reason : ℕ) → status_at met u ≡ Trapped reason → (1 ≤ reason) × (reason ≤ 6)
    reasons-met u reason h = at (ℕ_discrete u t)
      where
        at : Dec (u ≡ t) → (1 ≤ reason) × (reason ≤ 6)
        at (yes e) =
            never {b = is_waiting (status_at met u)} (ap (λ x. is_waiting (status_at met x)) e ∙ ap is_waiting (set_same m t (Waiting id count) here)) (ap is_waiting h)
        at (no e) = w.reason-range u reason (sym (set_other m t (Waiting id count) u e) ∙ h)

    agreed-met : (a b i c d : ℕ) → status_at met a ≡ Waiting i c → status_at met b ≡ Waiting i d → c ≡ d
    agreed-met a b i c d e f =
        ⊎_elim
        (λ x. ⊎_elim (λ y. sym x.2 ∙ y.2) (λ y. sym x.2 ∙ same b d (y.1 ∙ ap (λ j. Waiting j d) (sym x.1))) (who here b i d f))
        (λ x. ⊎_elim (λ y. sym (same a c (x.1 ∙ ap (λ j. Waiting j c) (sym y.1))) ∙ y.2) (λ y. w.agreed a b i c d x.1 y.1) (who here b i d f))
        (who here a i c e)

    fewer-met : waiting met id < count → (u i c : ℕ) → status_at met u ≡ Waiting i c → waiting met i < c
    fewer-met few u i c e = ⊎_elim (λ x. at-id x.1 x.2) (λ x. other x.1 (ℕ_discrete id i)) (who here u i c e)
      where
        at-id : id ≡ i → count ≡ c → waiting met i < c
        at-id f g = subst (λ j. waiting met j < c) f (omega (arith, few, g))

        other : status_at m u ≡ Waiting i c → Dec (id ≡ i) → waiting met i < c
        other h (yes f) = at-id f (same u c (h ∙ ap (λ j. Waiting j c) (sym f)))
        other h (no f) = let a = not_more i f in let b = w.fewer u i c h in omega arith

    settled : (waiting met id ≡ count → ⊥) → WellFormed met
    settled more =
        record {
          mask-range = w.mask-range;
          last-range = w.last-range;
          entries = set-entries m t (Waiting id count) ∙ w.entries;
          reason-range = reasons-met;
          waiting-range = λ u i c e.
              ⊎_elim (λ x. waiting-ranges limits i c (sym (λ j. carries_in_range limits (Waiting (x.1 j) (x.2 j))) ∙ fine)) (λ x. w.waiting-range u i c x.1) (who here u i c e);
          idle = idle_met;
          agreed = agreed-met;
          fewer = fewer-met (omega (arith, at_most, more));
        }

  -- all that wait there run on
  resumed : WellFormed m → runs m t ≡ true → WellFormed (release met id)
  resumed w r =
      kept m (release met id) w
      (record {
        enabled = release-enabled met id;
        last = omega (arith, release-last met id, w.last-range);
        entries = release-entries met id ∙ (set-entries m t (Waiting id count) ∙ w.entries);
        each = λ u. each u (ℕ_discrete u t);
      })
    where
      each : (u : ℕ) → Dec (u ≡ t) → (status_at (release met id) u ≡ status_at m u) ⊎ Calm (status_at m u) (status_at (release met id) u)
      each u (yes e) =
          let l = running-thread m t w r in
          let f : status_at met u ≡ Waiting id count = ap (status_at met) e ∙ set_same m t (Waiting id count) (omega (arith, w.entries)) in
          let g : status_at (release met id) u ≡ Running = release-status met id u ∙ (ap (released id) f ∙ ap (λ b. cond b Running (Waiting id count)) (eq-eqb id id refl)) in
          inr (record {
            was = ap (λ x. is_idle (status_at m x)) e ∙ running-idle (status_at m t) r;
            idle = ap is_idle g;
            waits = ap is_waiting g;
            carried = ap (carries_in_range limits) g;
          })
      each u (no e) =
          let f : status_at (release met id) u ≡ released id (status_at m u) = release-status met id u ∙ ap (released id) (set_other m t (Waiting id count) u e) in
          ⊎_elim (λ x. inl (f ∙ x)) (λ x. inr (subst (Calm (status_at m u)) (sym f) x)) (released-calm id (status_at m u))

  -- the thread waits, or all that wait there run on
  arrives : carries_in_range limits (Waiting id count) ≡ true → disputed m t id count ≡ false → KeepsRecord m t (arrive m t id count)
  unfolding release_if_met
  arrives fine agree = go (eqb (waiting met id) count) refl
    where
      go : (b : Bool) → eqb (waiting met id) count ≡ b → KeepsRecord m t (cond b (release met id) met)
      go true h =
          record {
            enabled = release-enabled met id;
            last = release-last met id;
            running = λ u n e. ap is_running (release-status met id u) ∙ released-running id (status_at met u) (set-running m t (Waiting id count) u n e);
            well-formed = λ e r. (tested limits (release met id)).1 (resumed ((tested limits m).0 e) r);
          }
      go false h =
          record {
            enabled = refl;
            last = refl;
            running = set-running m t (Waiting id count);
            well-formed = λ e r. (tested limits met).1 (settled ((tested limits m).0 e) r fine agree (eqb-false (waiting met id) count h));
          }

-- who arrives and is not refused does not trap
pub arrives-untrapped : (m : Machine) (t id count reason : ℕ) → t < length m.threads → status_at (arrive m t id count) t ≡ Trapped reason → ⊥
unfolding release_if_met
arrives-untrapped m t id count reason l = go (eqb (waiting n id) count)
  where
    n : Machine
    n = with_status_at m t (Waiting id count)

    waits_there : status_at n t ≡ Waiting id count
    waits_there = set_same m t (Waiting id count) l

    either : (b : Bool) → cond b Running (Waiting id count) ≡ Trapped reason → ⊥
    either true e = never refl (ap is_running e)
    either false e = never refl (ap is_waiting e)

    go : (b : Bool) → status_at (cond b (release n id) n) t ≡ Trapped reason → ⊥
    go true e = either (eqb id id) (sym (release-status n id t ∙ ap (released id) waits_there) ∙ e)
    go false e = either false (sym waits_there ∙ e)

pub meets : ReachesBarrier
unfolding reach_barrier
meets m t id second = go (refuses_barrier m t id second) refl
  where
    go : (b : Bool) → refuses_barrier m t id second ≡ b → KeepsRecord m t (cond {A = BarrierResult} b (record { trapped = true; machine = trap m t 5 }) (record { trapped = false; machine = arrive m t id (second + 1) })).machine
    go true h = traps m t 5 (omega arith) (omega arith)
    go false h =
        let a = admitted m t id second h in
        arrives m t id (second + 1)
        (rw (le-leb id 31 a.id-fits, le-leb 1 (second + 1) (omega arith), le-leb (second + 1) 8 (omega (arith, a.second_fits)))) a.agreed
