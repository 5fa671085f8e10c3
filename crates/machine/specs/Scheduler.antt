-- Which thread is issued next (document 01, "Choosing and counting issues").
use Rattle.std.specs.Prelude.{ℕ, ◌+◌, ◌%◌, Bool, List, [], ◌∷◌, Option, Some, None}
use Rattle.machine.specs.Machine.{any_thread, status_at}
use Rattle.machine.specs.Search.{first}
use Rattle.thread_entry.specs.Status.{is_running, is_waiting}
use Rattle.machine.specs.Types.{Machine, Chosen, Turn}

abbrev pub runs : Machine → ℕ → Bool
runs m t = is_running (status_at m t)

-- "going round upwards from 7 to 0": the thread at a distance after "last"
abbrev pub after : Machine → ℕ → ℕ
after m distance = (m.last + distance) % 8

abbrev pub distances : List ℕ
distances = 1 ∷ 2 ∷ 3 ∷ 4 ∷ 5 ∷ 6 ∷ 7 ∷ 8 ∷ []

-- the thread chosen, if any
abbrev pub Choice : Type 0
Choice = Option Chosen

-- one at its distance
abbrev pub some_chosen : ℕ → ℕ → Choice
some_chosen t d = Some (record { thread = t; distance = d })

-- the thread chosen at a distance, if at any
abbrev pub chosen_at : Machine → Option ℕ → Choice
chosen_at m None = None
chosen_at m (Some distance) = some_chosen (after m distance) distance

-- "the first running thread after "last", going round upwards from 7 to 0"
unfoldable pub choice : Machine → Choice
choice m = chosen_at m (first (λ distance. runs m (after m distance)) distances)

-- the thread "becomes "last""
abbrev pub with_last : Machine → ℕ → Machine
with_last m t = record { enabled = m.enabled; last = t; threads = m.threads }

-- the record with which the thread chosen is issued
abbrev pub after_choice : Machine → Choice → Machine
after_choice m (Some next) = with_last m next.thread
after_choice m None = m

-- the choice, with that record
unfoldable pub choose : Machine → Turn
choose m = record { choice = choice m; machine = after_choice m (choice m) }

abbrev pub waits : Machine → ℕ → Bool
waits m t = is_waiting (status_at m t)

-- "if no thread is running, the run answers stuck if one waits, else stopped"
unfoldable pub some_waits : Machine → Bool
some_waits m = any_thread (waits m)
