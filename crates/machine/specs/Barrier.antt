-- Meeting at a barrier (document 01, "Meeting at a barrier").
use Rattle.std.specs.Prelude.{ℕ, ◌+◌, Bool, true, false, not, ◌&&◌, ◌||◌, cond, map, ltb, eqb, Option, Some, None}
use Rattle.answer.specs.Reason.{barrier-refused}
use Rattle.thread_entry.specs.Entry.{with_status}
use Rattle.machine.specs.Machine.{count_threads, status_at, with_status_at, trap}
use Rattle.thread_entry.specs.Status.{limits, waits_at}
use Rattle.machine.specs.Types.{Status, Running, Waiting, Machine, BarrierResult}
use Rattle.machine.specs.WellFormed.{waiting, disputed}

-- "Id above 31, second value above 7, or another thread waiting there with another count: trap 5."
-- "0 barrier: id in the first, count less one in the second."
unfoldable pub refuses_barrier : Machine → ℕ → ℕ → ℕ → Bool
refuses_barrier m t id second = ltb limits.barrier id || ltb 7 second || disputed m t id (second + 1)

-- "all of them are running": a status that waited there carries no id and no count any more
abbrev pub released : ℕ → Status → Status
released id status = cond (waits_at id status) Running status

unfoldable pub release : Machine → ℕ → Machine
release m id =
    record { enabled = m.enabled; last = m.last; threads = map (λ entry. with_status entry (released id entry.status)) m.threads }

-- "if now as many wait at the id as the count says, all of them are running"
unfoldable pub release_if_met : Machine → ℕ → ℕ → Machine
release_if_met m id count = cond (eqb (waiting m id) count) (release m id) m

-- "Else .. the thread waits; if now as many wait at the id as the count says, all of them are running."
abbrev pub arrive : Machine → ℕ → ℕ → ℕ → Machine
arrive m t id count = release_if_met (with_status_at m t (Waiting id count)) id count

-- the same of a thread that another may dispute the count with, and whether it trapped
abbrev pub arrive_or_trap : Machine → ℕ → ℕ → ℕ → BarrierResult
arrive_or_trap m t id count =
    cond (disputed m t id count)
    (record { trapped = true; machine = trap m t barrier-refused })
    (record { trapped = false; machine = arrive m t id count })

-- how many threads wait at a barrier beside one
abbrev pub others_waiting : Machine → ℕ → ℕ → ℕ
others_waiting m t id = count_threads (λ u. not (eqb u t) && waits_at id (status_at m u))

-- the same where each of them names the count
abbrev pub agreed_others : Machine → ℕ → ℕ → ℕ → Option ℕ
agreed_others m t id count = cond (disputed m t id count) None (Some (others_waiting m t id))

-- a meeting of a thread with two register values, and whether it trapped
unfoldable pub reach_barrier : Machine → ℕ → ℕ → ℕ → BarrierResult
reach_barrier m t id second =
    cond (refuses_barrier m t id second)
    (record { trapped = true; machine = trap m t barrier-refused })
    (record { trapped = false; machine = arrive m t id (second + 1) })
