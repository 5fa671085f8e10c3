-- The test of well-formedness passes exactly if the conditions of document 01 hold.
use Prim.Native.Nat.{ℕ, ◌<◌, ◌≤◌}
use mathlib.Core.Bool.{Bool, true, false, ◌&&◌, not, beq, and-false, and-eq-true_iff}
use mathlib.Core.Logic.{◌↔◌}
use mathlib.Core.Path.{◌≡◌, refl, sym, ap, ◌∙◌}
use native.Mathlib.Decide.{ℕ_discrete, dec_lt}
use native.Mathlib.Omega.{arith}
use borrow.Author.Tests.{ltb-true, lt-ltb, leb-true, le-leb, eqb-true, eq-eqb, ne_eqb, not-true, not-false}
use lib.Dec.{leb, ltb, eqb}
use lib.ListN.{length, get_or-eq_default}
use Rattle.bits.specs.Bit.{bit}
use Rattle.machine.specs.Claims.{WellFormedWithin, Tested}
use Rattle.thread_entry.specs.Entry.{zero_thread}
use Rattle.machine.specs.Machine.{all_threads, status_at}
use Rattle.thread_entry.specs.Status.{is_idle, waits_otherwise, carries_in_range, if_waiting}
use Rattle.machine.specs.WellFormed.{waiting, disputed, numbers_in_range, idle_if_disabled, count_agreed, fewer_wait, well_formed_within}
use Rattle.machine.specs.Types.{Limits, Status, Idle, Running, Ended, Trapped, Waiting, Machine}
use Rattle.machine.proofs.Meetings.{disputes}
use Rattle.machine.proofs.Tests.{never}
use Rattle.machine.proofs.Threads.{all-at, all-threads, none-at, no-thread}

-- only a thread has a status that is not idle
pub is-thread : (m : Machine) → length m.threads ≡ 8 → (t : ℕ) → is_idle (status_at m t) ≡ false → t < 8
is-thread m e t h = go (dec_lt t 8)
  where
    go : Dec (t < 8) → t < 8
    go (yes l) = l
    go (no l) = never (ap (λ x. is_idle x.status) (get_or-eq_default m.threads zero_thread (omega (arith, l)))) h

-- a test of a status that is waiting
if-waiting : (s : Status) (f : ℕ → ℕ → Bool) → if_waiting s f ≡ true → (id count : ℕ) → s ≡ Waiting id count → f id count ≡ true
if-waiting s f h id count e = sym (ap (λ x. if_waiting x f) e) ∙ h

waiting-if : (s : Status) (f : ℕ → ℕ → Bool) → ((id count : ℕ) → s ≡ Waiting id count → f id count ≡ true) → if_waiting s f ≡ true
waiting-if Idle f h = refl
waiting-if Running f h = refl
waiting-if Ended f h = refl
waiting-if (Trapped reason) f h = refl
waiting-if (Waiting id count) f h = h id count refl

-- a status whose numbers are in range
module _ (l : Limits) where
  in-range : (s : Status) → ((reason : ℕ) → s ≡ Trapped reason → (1 ≤ reason) × (reason ≤ l.reason))
      → ((id count : ℕ) → s ≡ Waiting id count → (id ≤ l.barrier) × (1 ≤ count) × (count ≤ 8)) → carries_in_range l s ≡ true
  in-range Idle f g = refl
  in-range Running f g = refl
  in-range Ended f g = refl
  in-range (Trapped reason) f g = let r = f reason refl in rw (le-leb 1 reason r.0, le-leb reason l.reason r.1)
  in-range (Waiting id count) f g =
      let r = g id count refl in rw (le-leb id l.barrier r.0, le-leb 1 count r.1, le-leb count 8 r.2)

  pub trapped-range : (reason : ℕ) → carries_in_range l (Trapped reason) ≡ true → (1 ≤ reason) × (reason ≤ l.reason)
  trapped-range reason h =
      let x = (and-eq-true_iff (leb 1 reason) (leb reason l.reason)).0 h in (leb-true 1 reason x.0, leb-true reason l.reason x.1)

  pub waiting-ranges : (id count : ℕ) → carries_in_range l (Waiting id count) ≡ true → (id ≤ l.barrier) × (1 ≤ count) × (count ≤ 8)
  waiting-ranges id count h =
      let x = (and-eq-true_iff (leb id l.barrier && leb 1 count) (leb count 8)).0 h in
      let y = (and-eq-true_iff (leb id l.barrier) (leb 1 count)).0 x.0 in
      (leb-true id l.barrier y.0, leb-true 1 count y.1, leb-true count 8 x.1)

is-idle : (s : Status) → is_idle s ≡ true → s ≡ Idle
is-idle Idle h = refl
is-idle Running h = never h refl
is-idle Ended h = never h refl
is-idle (Trapped reason) h = never h refl
is-idle (Waiting id count) h = never h refl

beq_same : (a b : Bool) → beq a b ≡ true → a ≡ b
beq_same true true h = refl
beq_same true false h = never h refl
beq_same false true h = never h refl
beq_same false false h = refl

same-beq : (b : Bool) → beq b b ≡ true
same-beq true = refl
same-beq false = refl

-- the ranges
record Ranges (l : Limits) (m : Machine) : Type 0 where
  low : 1 ≤ m.enabled
  high : m.enabled ≤ 255
  last : m.last ≤ 7
  eight : length m.threads ≡ 8
  carried : (t : ℕ) → t < 8 → carries_in_range l (status_at m t) ≡ true

ranges : (l : Limits) (m : Machine) → numbers_in_range l m ≡ true → Ranges l m
unfolding numbers_in_range
ranges l m h =
    let a = (and-eq-true_iff (leb 1 m.enabled && leb m.enabled 255 && leb m.last 7 && eqb (length m.threads) 8) _).0 h in
    let b = (and-eq-true_iff (leb 1 m.enabled && leb m.enabled 255 && leb m.last 7) _).0 a.0 in
    let c = (and-eq-true_iff (leb 1 m.enabled && leb m.enabled 255) _).0 b.0 in
    let d = (and-eq-true_iff (leb 1 m.enabled) _).0 c.0 in
    record {
      low = leb-true _ _ d.0;
      high = leb-true _ _ d.1;
      last = leb-true _ _ c.1;
      eight = eqb-true _ _ b.1;
      carried = all-at (λ t. carries_in_range l (status_at m t)) a.1;
    }

-- a waiting status that does not wait otherwise has the count, and the other way round
same_count : (id c d : ℕ) → waits_otherwise id c (Waiting id d) ≡ false → c ≡ d
same_count id c d h = sym (eqb-true d c (not-false (eqb d c) (sym (ap (λ b. b && not (eqb d c)) (eq-eqb id id refl)) ∙ h)))

waits-same : (id c : ℕ) (s : Status) → ((d : ℕ) → s ≡ Waiting id d → c ≡ d) → waits_otherwise id c s ≡ false
waits-same id c Idle h = refl
waits-same id c Running h = refl
waits-same id c Ended h = refl
waits-same id c (Trapped reason) h = refl
waits-same id c (Waiting i d) h = at (ℕ_discrete i id)
  where
    at : Dec (i ≡ id) → waits_otherwise id c (Waiting i d) ≡ false
    at (yes e) = let f = h d (ap (λ x. Waiting x d) e) in rw (eq-eqb i id e, eq-eqb d c (sym f))
    at (no e) = rw (ne_eqb i id e)

module _ (m : Machine) where
  -- a status that is not idle is a thread's, and passes what every thread's passes
  at-thread : (p : ℕ → Bool) → length m.threads ≡ 8 → all_threads p ≡ true → (t : ℕ) (s : Status) → status_at m t ≡ s → is_idle s ≡ false → p t ≡ true
  at-thread p e h t s f g = all-at p h t (is-thread m e t (ap is_idle f ∙ g))

  idle-exactly : all_threads (idle_if_disabled m) ≡ true → (t : ℕ) → t < 8 → (status_at m t ≡ Idle) ↔ (bit m.enabled t ≡ 0)
  idle-exactly h t l =
      let e : is_idle (status_at m t) ≡ eqb (bit m.enabled t) 0 = beq_same _ _ (all-at (idle_if_disabled m) h t l) in
      ((λ f. eqb-true _ _ (sym e ∙ ap is_idle f)), (λ f. is-idle (status_at m t) (e ∙ eq-eqb _ _ f)))

  -- another thread that waits where none disputes the count has that count
  pub undisputed : length m.threads ≡ 8 → (t u id c d : ℕ) → disputed m t id c ≡ false → (u ≡ t → ⊥) → status_at m u ≡ Waiting id d → c ≡ d
  undisputed e t u id c d h x g =
      let y = none-at (disputes m t id c) h u (is-thread m e u (ap is_idle g)) in
      same_count id c d (sym (ap (waits_otherwise id c) g) ∙ (sym (ap (λ q. not q && waits_otherwise id c (status_at m u)) (ne_eqb u t x)) ∙ y))

  counts-agree : length m.threads ≡ 8 → all_threads (count_agreed m) ≡ true
      → (t u id c d : ℕ) → status_at m t ≡ Waiting id c → status_at m u ≡ Waiting id d → c ≡ d
  counts-agree e h t u id c d f g = at (ℕ_discrete u t)
    where
      at : Dec (u ≡ t) → c ≡ d
      at (yes x) = let y : status_at m u ≡ status_at m t = ap (status_at m) x in let z : Waiting id c ≡ Waiting id d = sym f ∙ (sym y ∙ g) in cc
      at (no x) =
          let a = at-thread (count_agreed m) e h t (Waiting id c) f refl in
          undisputed e t u id c d (not-true _ (if-waiting (status_at m t) (λ id count. not (disputed m t id count)) a id c f)) x g

module _ (l : Limits) (m : Machine) where
  conditions : well_formed_within l m ≡ true → WellFormedWithin l m
  unfolding well_formed_within
  conditions h =
      let a = (and-eq-true_iff (numbers_in_range l m && all_threads (idle_if_disabled m) && all_threads (count_agreed m)) (all_threads (fewer_wait m))).0 h in
      let b = (and-eq-true_iff (numbers_in_range l m && all_threads (idle_if_disabled m)) (all_threads (count_agreed m))).0 a.0 in
      let c = (and-eq-true_iff (numbers_in_range l m) (all_threads (idle_if_disabled m))).0 b.0 in
      let r = ranges l m c.0 in
      record {
        mask-range = (r.low, r.high);
        last-range = r.last;
        entries = r.eight;
        reason-range = λ t reason e. trapped-range l reason (sym (ap (carries_in_range l) e) ∙ r.carried t (is-thread m r.eight t (ap is_idle e)));
        waiting-range = λ t id count e. waiting-ranges l id count (sym (ap (carries_in_range l) e) ∙ r.carried t (is-thread m r.eight t (ap is_idle e)));
        idle = idle-exactly m c.1;
        agreed = counts-agree m r.eight b.1;
        fewer = λ t id count e.
            ltb-true _ _ (if-waiting (status_at m t) (λ id count. ltb (waiting m id) count) (at-thread m (fewer_wait m) r.eight a.1 t (Waiting id count) e refl) id count e);
      }

  in-ranges : WellFormedWithin l m → numbers_in_range l m ≡ true
  unfolding numbers_in_range
  in-ranges w =
      rw (le-leb 1 m.enabled w.mask-range.0, le-leb m.enabled 255 w.mask-range.1, le-leb m.last 7 w.last-range, eq-eqb (length m.threads) 8 w.entries)
      (all-threads (λ t. carries_in_range l (status_at m t)) (λ t k. in-range l (status_at m t) (w.reason-range t) (w.waiting-range t)))

  idle-test : WellFormedWithin l m → (t : ℕ) → t < 8 → idle_if_disabled m t ≡ true
  idle-test w t k = go (is_idle (status_at m t)) refl
    where
      go : (b : Bool) → is_idle (status_at m t) ≡ b → beq b (eqb (bit m.enabled t) 0) ≡ true
      go true e = rw (eq-eqb _ _ ((w.idle t k).0 (is-idle (status_at m t) e)))
      go false e = rw (ne_eqb (bit m.enabled t) 0 (λ z. never (ap is_idle ((w.idle t k).1 z)) e))

  agreed-test : WellFormedWithin l m → (t : ℕ) → t < 8 → count_agreed m t ≡ true
  agreed-test w t k =
      waiting-if (status_at m t) (λ id count. not (disputed m t id count))
      (λ id count e. ap not (no-thread (disputes m t id count)
      (λ u n. rw (waits-same id count (status_at m u) (λ d f. w.agreed t u id count d e f)) (and-false (not (eqb u t))))))

  fewer-test : WellFormedWithin l m → (t : ℕ) → t < 8 → fewer_wait m t ≡ true
  fewer-test w t k = waiting-if (status_at m t) (λ id count. ltb (waiting m id) count) (λ id count e. lt-ltb _ _ (w.fewer t id count e))

  tests : WellFormedWithin l m → well_formed_within l m ≡ true
  unfolding well_formed_within
  tests w =
      rw (in-ranges w, all-threads (idle_if_disabled m) (idle-test w), all-threads (count_agreed m) (agreed-test w), all-threads (fewer_wait m) (fewer-test w))

pub tested : Tested
tested l m = (conditions l m, tests l m)
