-- A thread's entry, and its count of turns (document 01, "What a machine holds").
use Rattle.std.specs.Prelude.{ℕ, zero, suc, ◌+◌, ◌%◌, ◌^◌}
use Rattle.thread_entry.specs.Types.{Status, Idle, Thread}

-- an entry: its status, and how many turns the thread has had
abbrev pub entry_of : Status → ℕ → Thread
entry_of status turns = record { status = status; turns = turns }

-- an entry with every number 0
abbrev pub zero_thread : Thread
zero_thread = entry_of Idle 0

-- an entry with another status, or another count
abbrev pub with_status : Thread → Status → Thread
with_status entry status = entry_of status entry.turns

abbrev pub with_count : Thread → ℕ → Thread
with_count entry turns = entry_of entry.status turns

-- "Each thread entry gains its issues since start, trapping ones too, wrapping at 2^32." (02, T-05)
-- a count after one issue more
abbrev pub one_more_turn : ℕ → ℕ
one_more_turn turns = (turns + 1) % 2 ^ 32

-- after many
unfoldable pub many_more : ℕ → ℕ → ℕ
many_more zero turns = turns
many_more (suc n) turns = one_more_turn (many_more n turns)
