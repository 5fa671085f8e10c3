-- Counts of turns: read and put, and that nothing else goes by them.
use Prim.Native.Nat.{ℕ, zero, suc, ◌+◌, ◌<◌}
use mathlib.Core.Bool.{Bool, true, false, cond, not, ◌&&◌, ◌||◌}
use mathlib.Core.List.{List, [], ◌∷◌, map}
use mathlib.Core.Logic.{inl}
use Rattle.std.specs.Prelude.{Option, Some, None}
use mathlib.Core.Path.{◌≡◌, refl, sym, ap, ◌∙◌}
use native.Mathlib.Omega.{arith}
use lib.Dec.{eqb, ltb}
use lib.ListN.{length, get_or, set, length-map, length-set, get_or-map}
use lib.Seq.{map-set_same, get_or-set_same, get_or-set_other}
use Rattle.machine.specs.Barrier.{released, release, release_if_met, arrive, refuses_barrier, reach_barrier}
use Rattle.machine.specs.Claims.{CountsKept, CountsUnseen, CountsApart, Counting}
use Rattle.thread_entry.specs.Entry.{zero_thread, with_status, with_count, one_more_turn}
use Rattle.machine.specs.Machine.{any_thread, count_threads, status_at, turns_at, with_status_at, counted, turns_of, with_counts, with_turns, trap}
use Rattle.machine.specs.Scheduler.{runs, after, distances, chosen_at, choice, some_waits}
use Rattle.machine.specs.Search.{first}
use Rattle.thread_entry.specs.Status.{limits, is_running, is_waiting, waits_at, waits_otherwise}
use Rattle.machine.specs.Types.{Status, Idle, Trapped, Waiting, Thread, Machine, BarrierResult}
use Rattle.machine.specs.WellFormed.{waiting, disputed, well_formed}
use Rattle.machine.proofs.Conditions.{tested}
use Rattle.machine.proofs.Kept.{kept, set-turns}

-- Read.

pub turns-length : (m : Machine) → length (turns_of m) ≡ length m.threads
unfolding turns_of
turns-length m = length-map m.threads (λ entry. entry.turns)

pub turns_at_lem : (m : Machine) (t : ℕ) → get_or (turns_of m) t 0 ≡ turns_at m t
unfolding turns_of
turns_at_lem m t = get_or-map (λ entry. entry.turns) m.threads t zero_thread

-- Put.

-- a record with other entries
abbrev with_threads : Machine → List Thread → Machine
with_threads m xs = record { enabled = m.enabled; last = m.last; threads = xs }

put-length : (xs : List Thread) (ns : List ℕ) → length (with_counts xs ns) ≡ length xs
unfolding with_counts
put-length [] ns = refl
put-length (x ∷ xs) [] = ap suc (put-length xs [])
put-length (x ∷ xs) (n ∷ ns) = ap suc (put-length xs ns)

put-status : (xs : List Thread) (ns : List ℕ) (t : ℕ) → (get_or (with_counts xs ns) t zero_thread).status ≡ (get_or xs t zero_thread).status
unfolding with_counts
put-status [] ns t = refl
put-status (x ∷ xs) [] zero = refl
put-status (x ∷ xs) [] (suc t) = put-status xs [] t
put-status (x ∷ xs) (n ∷ ns) zero = refl
put-status (x ∷ xs) (n ∷ ns) (suc t) = put-status xs ns t

put-turns : (xs : List Thread) (ns : List ℕ) (t : ℕ) → t < length xs → (get_or (with_counts xs ns) t zero_thread).turns ≡ get_or ns t 0
unfolding with_counts
put-turns [] ns t l = absurd (omega arith)
put-turns (x ∷ xs) [] zero l = refl
put-turns (x ∷ xs) [] (suc t) l = put-turns xs [] t (omega arith)
put-turns (x ∷ xs) (n ∷ ns) zero l = refl
put-turns (x ∷ xs) (n ∷ ns) (suc t) l = put-turns xs ns t (omega arith)

put-own : (xs : List Thread) → with_counts xs (map (λ entry. entry.turns) xs) ≡ xs
unfolding with_counts
put-own [] = refl
put-own (x ∷ xs) = ap {B = List Thread} (λ r. x ∷ r) (put-own xs)

put-again : (xs : List Thread) (ns ks : List ℕ) → with_counts (with_counts xs ns) ks ≡ with_counts xs ks
unfolding with_counts
put-again [] ns ks = refl
put-again (x ∷ xs) [] [] = ap {B = List Thread} (λ r. with_count x 0 ∷ r) (put-again xs [] [])
put-again (x ∷ xs) [] (k ∷ ks) = ap {B = List Thread} (λ r. with_count x k ∷ r) (put-again xs [] ks)
put-again (x ∷ xs) (n ∷ ns) [] = ap {B = List Thread} (λ r. with_count x 0 ∷ r) (put-again xs ns [])
put-again (x ∷ xs) (n ∷ ns) (k ∷ ks) = ap {B = List Thread} (λ r. with_count x k ∷ r) (put-again xs ns ks)

-- one more, by the entry and by the list
abbrev more : Thread → Thread
more x = with_count x (one_more_turn x.turns)

put-more : (xs : List Thread) (ns : List ℕ) (t : ℕ) → t < length ns
    → set (with_counts xs ns) t (more (get_or (with_counts xs ns) t zero_thread)) ≡ with_counts xs (set ns t (one_more_turn (get_or ns t 0)))
unfolding with_counts
put-more xs [] t l = absurd (omega arith)
put-more [] (n ∷ ns) t l = refl
put-more (x ∷ xs) (n ∷ ns) zero l = refl
put-more (x ∷ xs) (n ∷ ns) (suc t) l = ap {B = List Thread} (λ r. with_count x n ∷ r) (put-more xs ns t (omega arith))

pub counts-kept : CountsKept
unfolding turns_of
counts-kept =
    record {
      length-of = turns-length;
      at = turns_at_lem;
      put-at = λ m ns t l. put-turns m.threads ns t l;
      put-own = λ m. ap (with_threads m) (put-own m.threads);
      put-again = λ m ns ks. ap (with_threads m) (put-again m.threads ns ks);
      one_more = λ m ns t l. ap (with_threads m) (put-more m.threads ns t l);
    }

-- Not seen.

module _ (m : Machine) (ns : List ℕ) where
  status : (t : ℕ) → status_at (with_turns m ns) t ≡ status_at m t
  status t = put-status m.threads ns t

  chosen_at_lem : (d : Option ℕ) → chosen_at (with_turns m ns) d ≡ chosen_at m d
  chosen_at_lem None = refl
  chosen_at_lem (Some d) = refl

  chosen : choice (with_turns m ns) ≡ choice m
  unfolding choice
  chosen =
      chosen_at_lem (first (λ d. runs (with_turns m ns) (after m d)) distances)
      ∙ (λ i. chosen_at m (first (λ d. is_running (status (after m d) i)) distances))

  some-waits : some_waits (with_turns m ns) ≡ some_waits m
  unfolding some_waits
  some-waits i = any_thread (λ t. is_waiting (status t i))

  wait : (id : ℕ) → waiting (with_turns m ns) id ≡ waiting m id
  wait id i = count_threads (λ u. waits_at id (status u i))

  dispute : (t id count : ℕ) → disputed (with_turns m ns) t id count ≡ disputed m t id count
  dispute t id count i = any_thread (λ u. not (eqb u t) && waits_otherwise id count (status u i))

  stays-well-formed : well_formed m ≡ true → well_formed (with_turns m ns) ≡ true
  stays-well-formed h =
      let w = (tested limits m).0 h in
      (tested limits (with_turns m ns)).1
      (kept m (with_turns m ns) w
      (record { enabled = refl; last = w.last-range; entries = put-length m.threads ns ∙ w.entries; each = λ u. inl (status u) }))

same_tests : (a b : Bool) → (a ≡ true → b ≡ true) → (b ≡ true → a ≡ true) → a ≡ b
same_tests true b f g = sym (f refl)
same_tests false true f g = g refl
same_tests false false f g = refl

pub counts-unseen : CountsUnseen
counts-unseen =
    record {
      entries = λ m ns. put-length m.threads ns;
      statuses = status;
      choices = chosen;
      waits = some-waits;
      well-formed = λ m ns.
          same_tests (well_formed (with_turns m ns)) (well_formed m)
          (λ h.
          sym (ap well_formed (counts-kept.put-again m ns (turns_of m) ∙ counts-kept.put-own m)) ∙ stays-well-formed (with_turns m ns) (turns_of m) h)
          (stays-well-formed m ns);
    }

-- Left.

put-set : (xs : List Thread) (ns : List ℕ) (t : ℕ) (s : Status)
    → set (with_counts xs ns) t (with_status (get_or (with_counts xs ns) t zero_thread) s)
    ≡ with_counts (set xs t (with_status (get_or xs t zero_thread) s)) ns
unfolding with_counts
put-set [] ns t s = refl
put-set (x ∷ xs) [] zero s = refl
put-set (x ∷ xs) [] (suc t) s = ap {B = List Thread} (λ r. with_count x 0 ∷ r) (put-set xs [] t s)
put-set (x ∷ xs) (n ∷ ns) zero s = refl
put-set (x ∷ xs) (n ∷ ns) (suc t) s = ap {B = List Thread} (λ r. with_count x n ∷ r) (put-set xs ns t s)

set-status : (m : Machine) (ns : List ℕ) (t : ℕ) (s : Status) → with_status_at (with_turns m ns) t s ≡ with_turns (with_status_at m t s) ns
set-status m ns t s = ap (with_threads m) (put-set m.threads ns t s)

-- a status by a rule, in every entry
abbrev restate : (Status → Status) → Thread → Thread
restate f x = with_status x (f x.status)

put_map : (f : Status → Status) (xs : List Thread) (ns : List ℕ) → map (restate f) (with_counts xs ns) ≡ with_counts (map (restate f) xs) ns
unfolding with_counts
put_map f [] ns = refl
put_map f (x ∷ xs) [] = ap {B = List Thread} (λ r. with_count (restate f x) 0 ∷ r) (put_map f xs [])
put_map f (x ∷ xs) (n ∷ ns) = ap {B = List Thread} (λ r. with_count (restate f x) n ∷ r) (put_map f xs ns)

release-put : (m : Machine) (ns : List ℕ) (id : ℕ) → release (with_turns m ns) id ≡ with_turns (release m id) ns
unfolding release
release-put m ns id = ap (with_threads m) (put_map (released id) m.threads ns)

met-put : (m : Machine) (ns : List ℕ) (id count : ℕ) → release_if_met (with_turns m ns) id count ≡ with_turns (release_if_met m id count) ns
unfolding release_if_met
met-put m ns id count = (λ i. cond (eqb (wait m ns id i) count) (release-put m ns id i) (with_turns m ns)) ∙ go (eqb (waiting m id) count)
  where
    go : (b : Bool) → cond b (with_turns (release m id) ns) (with_turns m ns) ≡ with_turns (cond b (release m id) m) ns
    go true = refl
    go false = refl

arrive-put : (m : Machine) (ns : List ℕ) (t id count : ℕ) → arrive (with_turns m ns) t id count ≡ with_turns (arrive m t id count) ns
arrive-put m ns t id count =
    ap (λ n. release_if_met n id count) (set-status m ns t (Waiting id count)) ∙ met-put (with_status_at m t (Waiting id count)) ns id count

refuses-put : (m : Machine) (ns : List ℕ) (t id second : ℕ) → refuses_barrier (with_turns m ns) t id second ≡ refuses_barrier m t id second
unfolding refuses_barrier
refuses-put m ns t id second = ap (λ d. ltb limits.barrier id || ltb 7 second || d) (dispute m ns t id (second + 1))

map-restated : (f : Status → Status) (xs : List Thread)
    → map (λ e. e.turns) (map (λ e. with_status e (f e.status)) xs) ≡ map (λ e. e.turns) xs
map-restated f [] = refl
map-restated f (x ∷ xs) = ap {B = List ℕ} (λ r. x.turns ∷ r) (map-restated f xs)

release-turns : (m : Machine) (id : ℕ) → turns_of (release m id) ≡ turns_of m
unfolding release turns_of
release-turns m id = map-restated (released id) m.threads

-- a test's record has the counts that both have
same-turns : (b : Bool) (x y m : Machine) → turns_of x ≡ turns_of m → turns_of y ≡ turns_of m → turns_of (cond b x y) ≡ turns_of m
same-turns true x y m h k = h
same-turns false x y m h k = k

met-turns : (m : Machine) (id count : ℕ) → turns_of (release_if_met m id count) ≡ turns_of m
unfolding release_if_met
met-turns m id count = same-turns (eqb (waiting m id) count) (release m id) m m (release-turns m id) refl

met-stays : (m : Machine) (t id second : ℕ) → turns_of (reach_barrier m t id second).machine ≡ turns_of m
unfolding reach_barrier
met-stays m t id second = go (refuses_barrier m t id second)
  where
    arrived : Machine
    arrived = arrive m t id (second + 1)

    go : (b : Bool) → turns_of (cond {A = BarrierResult} b (record { trapped = true; machine = trap m t 5 }) (record { trapped = false; machine = arrived })).machine ≡ turns_of m
    go true = set-turns m t (Trapped 5)
    go false = met-turns (with_status_at m t (Waiting id (second + 1))) id (second + 1) ∙ set-turns m t (Waiting id (second + 1))

-- a meeting's result with other counts
abbrev recounted : List ℕ → BarrierResult → BarrierResult
recounted ns r = record { trapped = r.trapped; machine = with_turns r.machine ns }

met : (m : Machine) (ns : List ℕ) (t id second : ℕ) → reach_barrier (with_turns m ns) t id second ≡ recounted ns (reach_barrier m t id second)
unfolding reach_barrier
met m ns t id second =
    (λ i. cond {A = BarrierResult} (refuses-put m ns t id second i)
    (record { trapped = true; machine = set-status m ns t (Trapped 5) i }) (record { trapped = false; machine = arrive-put m ns t id (second + 1) i }))
    ∙ go (refuses_barrier m t id second)
  where
    a : BarrierResult
    a = record { trapped = true; machine = trap m t 5 }

    b : BarrierResult
    b = record { trapped = false; machine = arrive m t id (second + 1) }

    go : (r : Bool) → cond r (recounted ns a) (recounted ns b) ≡ recounted ns (cond r a b)
    go true = refl
    go false = refl

pub counts-apart : CountsApart
counts-apart = record { set-stays = set-turns; met-stays = met-stays; set-status = set-status; met = met }

-- Counted.

module _ (m : Machine) (t : ℕ) where
  -- the entry after
  abbrev entry : Thread
  entry = more (get_or m.threads t zero_thread)

  counted-status : (u : ℕ) → status_at (counted m t) u ≡ status_at m u
  counted-status u =
      let f : Thread → Status = λ x. x.status in
      sym (get_or-map f (set m.threads t entry) u zero_thread)
      ∙ ap (λ xs. get_or xs u Idle) (map-set_same f m.threads t entry zero_thread refl)
      ∙ get_or-map f m.threads u zero_thread

  counted-well-formed : well_formed m ≡ true → well_formed (counted m t) ≡ true
  counted-well-formed h =
      let w = (tested limits m).0 h in
      let size = length-set m.threads t entry ∙ w.entries in
      (tested limits (counted m t)).1
      (kept m (counted m t) w (record { enabled = refl; last = w.last-range; entries = size; each = λ u. inl (counted-status u) }))

pub counting : Counting
counting =
    record {
      own = λ m t l. ap (λ x. x.turns) (get_or-set_same m.threads t (entry m t) zero_thread l);
      others = λ m t u n. ap (λ x. x.turns) (get_or-set_other m.threads t u (entry m t) zero_thread n);
      statuses = counted-status;
      keeps = λ m n t k.
          record {
            enabled = k.enabled;
            last = k.last;
            running = λ u e r. ap is_running (counted-status n t u) ∙ k.running u e r;
            well-formed = λ h r. counted-well-formed n t (k.well-formed h r);
          };
    }
