-- The machine record: its eight threads, what it begins as, and what changes in it (document 01, "What a machine holds").
use Rattle.std.specs.Prelude.{ℕ, Bool, cond, List, [], ◌∷◌, map, eqb, get_or, set, replicate}
use Rattle.bits.specs.Bit.{bit}
use Rattle.thread_entry.specs.Entry.{zero_thread, with_status, with_count, one_more_turn}
use Rattle.machine.specs.Search.{all, any, count}
use Rattle.machine.specs.Types.{Status, Idle, Running, Ended, Trapped, Thread, Machine}

abbrev pub thread_numbers : List ℕ
thread_numbers = 0 ∷ 1 ∷ 2 ∷ 3 ∷ 4 ∷ 5 ∷ 6 ∷ 7 ∷ []

-- every thread passes a test, one passes it, and how many pass it
unfoldable pub all_threads : (ℕ → Bool) → Bool
all_threads p = all p thread_numbers

unfoldable pub any_thread : (ℕ → Bool) → Bool
any_thread p = any p thread_numbers

unfoldable pub count_threads : (ℕ → Bool) → ℕ
count_threads p = count p thread_numbers

-- the status of a thread, idle where there is no such thread, and its count of turns, then 0
abbrev pub status_at : Machine → ℕ → Status
status_at m t = (get_or m.threads t zero_thread).status

abbrev pub turns_at : Machine → ℕ → ℕ
turns_at m t = (get_or m.threads t zero_thread).turns

-- the record with another status of one thread; as it was where there is no such thread
abbrev pub with_status_at : Machine → ℕ → Status → Machine
with_status_at m t status =
    record { enabled = m.enabled; last = m.last; threads = set m.threads t (with_status (get_or m.threads t zero_thread) status) }

-- the record with one issue more of a thread (02, T-05)
abbrev pub counted : Machine → ℕ → Machine
counted m t =
    record {
      enabled = m.enabled;
      last = m.last;
      threads = set m.threads t (with_count (get_or m.threads t zero_thread) (one_more_turn (turns_at m t)));
    }

-- the counts of all threads, and the record with others: 0 where the list has none
unfoldable pub turns_of : Machine → List ℕ
turns_of m = map (λ entry. entry.turns) m.threads

unfoldable pub with_counts : List Thread → List ℕ → List Thread
with_counts [] turns = []
with_counts (entry ∷ entries) [] = with_count entry 0 ∷ with_counts entries []
with_counts (entry ∷ entries) (n ∷ turns) = with_count entry n ∷ with_counts entries turns

abbrev pub with_turns : Machine → List ℕ → Machine
with_turns m turns = record { enabled = m.enabled; last = m.last; threads = with_counts m.threads turns }

-- "A trap changes only that entry's status and "last"", and "a trap changes the count too" (02, T-05). The thread became "last" when it
-- was chosen, and its issue is counted when it has been made, whether it traps or not.
abbrev pub trap : Machine → ℕ → ℕ → Machine
trap m t reason = with_status_at m t (Trapped reason)

-- "2 end: .. status ended."
abbrev pub end : Machine → ℕ → Machine
end m t = with_status_at m t Ended

-- "Start takes an enabled mask, .. makes enabled threads running and last 7."
abbrev pub start_status : ℕ → ℕ → Status
start_status mask t = cond (eqb (bit mask t) 0) Idle Running

unfoldable pub start : ℕ → Machine
start mask = record { enabled = mask; last = 7; threads = map (λ t. with_status zero_thread (start_status mask t)) thread_numbers }

-- "a record with every number 0"
abbrev pub zeroed : Machine
zeroed = record { enabled = 0; last = 0; threads = replicate 8 zero_thread }
