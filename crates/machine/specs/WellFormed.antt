-- When a machine record is well formed (document 01, "What a machine holds").
use Rattle.std.specs.Prelude.{ℕ, Bool, ◌&&◌, not, leb, ltb, eqb, length}
use Rattle.std.specs.Bool.{beq}
use Rattle.bits.specs.Bit.{bit}
use Rattle.machine.specs.Machine.{all_threads, any_thread, count_threads, status_at}
use Rattle.thread_entry.specs.Status.{limits, is_idle, waits_at, waits_otherwise, if_waiting, carries_in_range}
use Rattle.machine.specs.Types.{Limits, Machine}

-- how many threads wait at a barrier
abbrev pub waiting : Machine → ℕ → ℕ
waiting m id = count_threads (λ u. waits_at id (status_at m u))

-- "another thread waiting there with another count": another than t
abbrev pub disputed : Machine → ℕ → ℕ → ℕ → Bool
disputed m t id count = any_thread (λ u. not (eqb u t) && waits_otherwise id count (status_at m u))

-- "enabled mask (1..255), last thread issued (0..7), and eight thread entries", each with what its status carries
unfoldable pub numbers_in_range : Limits → Machine → Bool
numbers_in_range l m =
    leb 1 m.enabled && leb m.enabled 255 && leb m.last 7 && eqb (length m.threads) 8
    && all_threads (λ t. carries_in_range l (status_at m t))

-- "a thread is idle exactly if its enabled bit is 0"
abbrev pub idle_if_disabled : Machine → ℕ → Bool
idle_if_disabled m t = beq (is_idle (status_at m t)) (eqb (bit m.enabled t) 0)

-- "all threads waiting at one id name the same count"
abbrev pub count_agreed : Machine → ℕ → Bool
count_agreed m t = if_waiting (status_at m t) (λ id count. not (disputed m t id count))

-- "and fewer wait there than that count"
abbrev pub fewer_wait : Machine → ℕ → Bool
fewer_wait m t = if_waiting (status_at m t) (λ id count. ltb (waiting m id) count)

-- "A record is well formed when ..", and "well formed with its numbers in range": within the limits l
unfoldable pub well_formed_within : Limits → Machine → Bool
well_formed_within l m = numbers_in_range l m && all_threads (idle_if_disabled m) && all_threads (count_agreed m) && all_threads (fewer_wait m)

abbrev pub well_formed : Machine → Bool
well_formed m = well_formed_within limits m
