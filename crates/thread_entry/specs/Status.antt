-- Tests of a thread's status (document 01, "What a machine holds").
use Rattle.std.specs.Prelude.{ℕ, Bool, true, false, not, ◌&&◌, ◌==◌, nat_le}
use Rattle.thread_entry.specs.Types.{Limits, Status, Idle, Running, Ended, Trapped, Waiting}

abbrev pub is_idle : Status → Bool
is_idle Idle = true
is_idle Running = false
is_idle Ended = false
is_idle (Trapped reason) = false
is_idle (Waiting id count) = false

abbrev pub is_running : Status → Bool
is_running Idle = false
is_running Running = true
is_running Ended = false
is_running (Trapped reason) = false
is_running (Waiting id count) = false

abbrev pub is_waiting : Status → Bool
is_waiting Idle = false
is_waiting Running = false
is_waiting Ended = false
is_waiting (Trapped reason) = false
is_waiting (Waiting id count) = true

-- waiting at a barrier
abbrev pub waits_at : ℕ → Status → Bool
waits_at barrier Idle = false
waits_at barrier Running = false
waits_at barrier Ended = false
waits_at barrier (Trapped reason) = false
waits_at barrier (Waiting id count) = id == barrier

-- waiting at a barrier with another count than n
abbrev pub waits_otherwise : ℕ → ℕ → Status → Bool
waits_otherwise barrier n Idle = false
waits_otherwise barrier n Running = false
waits_otherwise barrier n Ended = false
waits_otherwise barrier n (Trapped reason) = false
waits_otherwise barrier n (Waiting id count) = id == barrier && not (count == n)

-- "trapped 3 with a reason 1..6, waiting 4 with barrier id 0..31": the greatest that a record may hold
abbrev pub limits : Limits
limits = record { reason = 6; barrier = 31 }

-- "trapped 3 with a reason 1..6, waiting 4 with barrier id 0..31 and a count 1..8"
abbrev pub carries_in_range : Limits → Status → Bool
carries_in_range l Idle = true
carries_in_range l Running = true
carries_in_range l Ended = true
carries_in_range l (Trapped reason) = nat_le 1 reason && nat_le reason l.reason
carries_in_range l (Waiting id count) = nat_le id l.barrier && nat_le 1 count && nat_le count 8

-- what holds of a status if it is waiting, of its barrier id and its count
abbrev pub if_waiting : Status → (ℕ → ℕ → Bool) → Bool
if_waiting Idle p = true
if_waiting Running p = true
if_waiting Ended p = true
if_waiting (Trapped reason) p = true
if_waiting (Waiting id count) p = p id count
