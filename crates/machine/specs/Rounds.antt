-- How often each thread is issued while no status is set (document 01, "Choosing and counting issues"; 02, T-05).
use Rattle.std.specs.Prelude.{ℕ, suc, ◌+◌, ◌-◌, ◌/◌, ◌%◌, cond, List, [], ◌∷◌}
use Rattle.thread_entry.specs.Entry.{many_more}
use Rattle.machine.specs.Scheduler.{runs}
use Rattle.machine.specs.Types.{Machine}

-- how many entries stand between "last" and a thread, "going round upwards from 7 to 0"
abbrev pub between : Machine → ℕ → ℕ
between m t = (t + 7 - m.last % 8) % 8

-- "the first running thread after "last"" is issued each time: so a round of eight entries has one issue of every running thread, and
-- up to the entry at a distance from "last" a thread is issued so often
unfoldable pub issues_within : Machine → ℕ → ℕ → ℕ
issues_within m passed t = cond (runs m t) ((passed + 7 - between m t) / 8) 0

-- counts of threads, the first thread's first, each with so many issues more
unfoldable pub with_issues : (ℕ → ℕ) → List ℕ → List ℕ
with_issues more [] = []
with_issues more (n ∷ turns) = many_more (more 0) n ∷ with_issues (λ t. more (suc t)) turns

abbrev pub after_rounds : Machine → ℕ → List ℕ → List ℕ
after_rounds m passed turns = with_issues (issues_within m passed) turns
