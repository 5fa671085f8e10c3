-- Well-formedness one entry at a time.
use Prim.Native.Nat.{ℕ, ◌≤◌, ◌<◌}
use mathlib.Core.Bool.{Bool, false, ◌&&◌, and_assoc, and-false}
use mathlib.Core.Path.{◌≡◌}
use borrow.Author.Tests.{le-leb, lt-leb, eq-eqb}
use lib.ListN.{length}
use Rattle.machine.specs.Machine.{thread_numbers, all_threads, status_at}
use Rattle.thread_entry.specs.Status.{carries_in_range}
use Rattle.machine.specs.WellFormed.{idle_if_disabled, count_agreed, fewer_wait, numbers_in_range, well_formed_within}
use Rattle.machine.specs.Search.{all}
use Rattle.thread_entry.specs.declared.status.Limits.{Limits}
use Rattle.machine.specs.declared.record.Machine.{Machine}
use Rattle.machine.proofs.Tests.{all_both}

-- an entry is as it should be
abbrev pub in_order : Limits → Machine → ℕ → Bool
in_order l m t = carries_in_range l (status_at m t) && idle_if_disabled m t && (count_agreed m t && fewer_wait m t)

pub by_entries : (l : Limits) (m : Machine) → 1 ≤ m.enabled → m.enabled ≤ 255 → m.last ≤ 7 → length m.threads ≡ 8
    → well_formed_within l m ≡ all (in_order l m) thread_numbers
unfolding well_formed_within numbers_in_range all_threads
by_entries l m a b c d =
    let e = all_both (λ t. carries_in_range l (status_at m t) && idle_if_disabled m t) (λ t. count_agreed m t && fewer_wait m t) thread_numbers in
    let f = all_both (λ t. carries_in_range l (status_at m t)) (idle_if_disabled m) thread_numbers in
    let g = all_both (count_agreed m) (fewer_wait m) thread_numbers in
    rw (le-leb _ _ a, le-leb _ _ b, le-leb _ _ c, eq-eqb _ _ d, e, f, g) (and_assoc (all (λ t. carries_in_range l (status_at m t)) thread_numbers && all (idle_if_disabled m) thread_numbers) (all (count_agreed m) thread_numbers) (all (fewer_wait m) thread_numbers))

pub no-mask : (l : Limits) (m : Machine) → m.enabled ≡ 0 → well_formed_within l m ≡ false
unfolding well_formed_within numbers_in_range
no-mask l m h = rw h

pub no_last : (l : Limits) (m : Machine) → 7 < m.last → well_formed_within l m ≡ false
unfolding well_formed_within numbers_in_range
no_last l m h = simp (lt-leb _ _ h, and-false)
