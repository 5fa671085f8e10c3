-- The numbers of a thread's entry (document 01, "What a machine holds" and "Saved image").
use Rattle.std.specs.Prelude.{ℕ, Bool, ◌&&◌, cond, Option, None, Some, eqb}
use Rattle.answer.specs.Answer.{Answer, given, refused, bad-record}
use Rattle.thread_entry.specs.Entry.{entry_of}
use Rattle.image.specs.Types.{Status, Idle, Running, Ended, Trapped, Waiting, Thread, ThreadFields}

-- the five numbers, by their places
abbrev pub fields : ℕ → ℕ → ℕ → ℕ → ℕ → ThreadFields
fields status reason id count turns = record { status = status; reason = reason; id = id; count = count; turns = turns }

-- "idle 0, running 1, ended 2, trapped 3 with a reason 1..6, waiting 4 with barrier id 0..31 and a count 1..8"; "(0 where not carried)".
-- "Each thread entry gains its issues since start" (02, T-05): whatever its status
abbrev pub status_fields : Status → ℕ → ThreadFields
status_fields Idle turns = fields 0 0 0 0 turns
status_fields Running turns = fields 1 0 0 0 turns
status_fields Ended turns = fields 2 0 0 0 turns
status_fields (Trapped reason) turns = fields 3 reason 0 0 turns
status_fields (Waiting id count) turns = fields 4 0 id count turns

abbrev pub fields_of : Thread → ThreadFields
fields_of entry = status_fields entry.status entry.turns

-- the status of a number, with what it carries
abbrev pub status_of : ThreadFields → Option Status
status_of f =
    cond (eqb f.status 0) (Some Idle)
    (cond (eqb f.status 1) (Some Running)
    (cond (eqb f.status 2) (Some Ended)
    (cond (eqb f.status 3) (Some (Trapped f.reason))
    (cond (eqb f.status 4) (Some (Waiting f.id f.count)) None))))

abbrev pub same_fields : ThreadFields → ThreadFields → Bool
same_fields a b =
    eqb a.status b.status && eqb a.reason b.reason && eqb a.id b.id && eqb a.count b.count
    && eqb a.turns b.turns

-- the entry, if the numbers are its own: not where "an image field not carried is not 0". Their ranges are those of a well-formed record.
unfoldable pub checked_thread : ThreadFields → Option Status → Answer Thread
checked_thread f None = refused bad-record
checked_thread f (Some s) = cond (same_fields (status_fields s f.turns) f) (given (entry_of s f.turns)) (refused bad-record)

-- the entry that has these numbers
unfoldable pub thread_of : ThreadFields → Answer Thread
thread_of f = checked_thread f (status_of f)
