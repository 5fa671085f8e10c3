-- What is proved of the definitions, for other crates to cite.
use Rattle.std.specs.Prelude.{ℕ, ◌+◌, ◌-◌, ◌/◌, ◌%◌, ◌<◌, ◌≤◌, true, false, List, ◌↔◌, ◌≡◌, length, get_or, set, None}
use Rattle.bits.specs.Bit.{bit}
use Rattle.machine.specs.Barrier.{reach_barrier}
use Rattle.thread_entry.specs.Entry.{one_more_turn, many_more}
use Rattle.machine.specs.Machine.{status_at, with_status_at, counted, turns_at, turns_of, with_turns, trap, end, start}
use Rattle.machine.specs.Rounds.{after_rounds}
use Rattle.machine.specs.Scheduler.{Choice, runs, after, choice, with_last, some_chosen, after_choice, choose, some_waits}
use Rattle.thread_entry.specs.Status.{limits}
use Rattle.machine.specs.Types.{Limits, Status, Idle, Trapped, Waiting, Machine, Turn}
use Rattle.machine.specs.WellFormed.{waiting, well_formed_within, well_formed}

-- Well-formedness.

-- the conditions of document 01, one by one
pub record WellFormedWithin (l : Limits) (m : Machine) : Type 0 where
  -- "enabled mask (1..255), last thread issued (0..7), and eight thread entries"
  pub mask-range : (1 ≤ m.enabled) × (m.enabled ≤ 255)
  pub last-range : m.last ≤ 7
  pub entries : length m.threads ≡ 8
  -- "trapped 3 with a reason 1..6, waiting 4 with barrier id 0..31 and a count 1..8"
  pub reason-range : (t reason : ℕ) → status_at m t ≡ Trapped reason → (1 ≤ reason) × (reason ≤ l.reason)
  pub waiting-range : (t id count : ℕ) → status_at m t ≡ Waiting id count → (id ≤ l.barrier) × (1 ≤ count) × (count ≤ 8)
  -- "a thread is idle exactly if its enabled bit is 0"
  pub idle : (t : ℕ) → t < 8 → (status_at m t ≡ Idle) ↔ (bit m.enabled t ≡ 0)
  -- "all threads waiting at one id name the same count"
  pub agreed : (t u id c d : ℕ) → status_at m t ≡ Waiting id c → status_at m u ≡ Waiting id d → c ≡ d
  -- "and fewer wait there than that count"
  pub fewer : (t id count : ℕ) → status_at m t ≡ Waiting id count → waiting m id < count

abbrev pub WellFormed : Machine → Type 0
WellFormed m = WellFormedWithin limits m

-- the test passes exactly if they hold
abbrev pub Tested : Type 0
Tested = (l : Limits) (m : Machine) → (well_formed_within l m ≡ true) ↔ WellFormedWithin l m

-- a running thread is one of the eight, and enabled
abbrev pub RunningEnabled : Type 0
RunningEnabled = (m : Machine) (t : ℕ) → well_formed m ≡ true → runs m t ≡ true → (t < 8) × (bit m.enabled t ≡ 1)

-- start makes a well-formed record of a mask 1..255, which is its enabled mask
abbrev pub Started : Type 0
Started = (mask : ℕ) → 1 ≤ mask → mask ≤ 255 → (well_formed (start mask) ≡ true) × ((start mask).enabled ≡ mask)

-- The scheduler.

-- thread t runs, at distance d after "last", and no thread at a shorter distance does
pub record FirstAfterLast (m : Machine) (t d : ℕ) : Type 0 where
  pub low : 1 ≤ d
  pub high : d ≤ 8
  pub place : t ≡ after m d
  pub running : runs m t ≡ true
  pub nearest : (k : ℕ) → 1 ≤ k → k < d → runs m (after m k) ≡ false

-- "the first running thread after "last"" is chosen
abbrev pub Chooses : Type 0
Chooses = (m : Machine) (t d : ℕ) → (choice m ≡ some_chosen t d) ↔ FirstAfterLast m t d

-- and none exactly if no thread runs
abbrev pub ChoosesNone : Type 0
ChoosesNone = (m : Machine) → (choice m ≡ None) ↔ ((t : ℕ) → t < 8 → runs m t ≡ false)

-- what a caller learns of a turn r: the choice is the rules', and the record the one with which its thread is issued
abbrev pub Turned : Type 0
Turned = (m : Machine) (r : Turn) → r ≡ choose m → (c : Choice) → r.choice ≡ c → (choice m ≡ c) × (r.machine ≡ after_choice m c)

-- a record stays well formed whichever thread is "last"
abbrev pub Issued : Type 0
Issued = (m : Machine) (t : ℕ) → t < 8 → well_formed m ≡ true → well_formed (with_last m t) ≡ true

-- What the issue of thread t makes of a record m.

pub record KeepsRecord (m : Machine) (t : ℕ) (n : Machine) : Type 0 where
  pub enabled : n.enabled ≡ m.enabled
  pub last : n.last ≡ m.last
  -- who runs and is not issued stays running
  pub running : (u : ℕ) → (u ≡ t → ⊥) → runs m u ≡ true → runs n u ≡ true
  -- a well-formed record stays so, if the thread was running
  pub well-formed : well_formed m ≡ true → runs m t ≡ true → well_formed n ≡ true

abbrev pub Traps : Type 0
Traps = (m : Machine) (t reason : ℕ) → 1 ≤ reason → reason ≤ limits.reason → KeepsRecord m t (trap m t reason)

abbrev pub Ends : Type 0
Ends = (m : Machine) (t : ℕ) → KeepsRecord m t (end m t)

abbrev pub ReachesBarrier : Type 0
ReachesBarrier = (m : Machine) (t id second : ℕ) → KeepsRecord m t (reach_barrier m t id second).machine

-- Counts of turns (02, T-05).

-- the counts that a record has are read and put as they are, and one more is one more in the list of them
pub record CountsKept : Type 0 where
  pub length-of : (m : Machine) → length (turns_of m) ≡ length m.threads
  pub at : (m : Machine) (t : ℕ) → get_or (turns_of m) t 0 ≡ turns_at m t
  pub put-at : (m : Machine) (turns : List ℕ) (t : ℕ) → t < length m.threads → turns_at (with_turns m turns) t ≡ get_or turns t 0
  pub put-own : (m : Machine) → with_turns m (turns_of m) ≡ m
  pub put-again : (m : Machine) (first second : List ℕ) → with_turns (with_turns m first) second ≡ with_turns m second
  pub one_more : (m : Machine) (turns : List ℕ) (t : ℕ) → t < length turns
      → counted (with_turns m turns) t ≡ with_turns m (set turns t (one_more_turn (get_or turns t 0)))

-- nothing that is asked of a record goes by its counts
pub record CountsUnseen : Type 0 where
  pub entries : (m : Machine) (turns : List ℕ) → length (with_turns m turns).threads ≡ length m.threads
  pub statuses : (m : Machine) (turns : List ℕ) (t : ℕ) → status_at (with_turns m turns) t ≡ status_at m t
  pub choices : (m : Machine) (turns : List ℕ) → choice (with_turns m turns) ≡ choice m
  pub waits : (m : Machine) (turns : List ℕ) → some_waits (with_turns m turns) ≡ some_waits m
  pub well-formed : (m : Machine) (turns : List ℕ) → well_formed (with_turns m turns) ≡ well_formed m

-- and a status that is set, or a meeting, leaves them, and goes by none
pub record CountsApart : Type 0 where
  pub set-stays : (m : Machine) (t : ℕ) (s : Status) → turns_of (with_status_at m t s) ≡ turns_of m
  pub met-stays : (m : Machine) (t id second : ℕ) → turns_of (reach_barrier m t id second).machine ≡ turns_of m
  pub set-status : (m : Machine) (turns : List ℕ) (t : ℕ) (s : Status)
      → with_status_at (with_turns m turns) t s ≡ with_turns (with_status_at m t s) turns
  pub met : (m : Machine) (turns : List ℕ) (t id second : ℕ)
      → reach_barrier (with_turns m turns) t id second
      ≡ record { trapped = (reach_barrier m t id second).trapped; machine = with_turns (reach_barrier m t id second).machine turns }

-- an issue is counted in one entry, and the record is in all else what the issue made of it
pub record Counting : Type 0 where
  pub own : (m : Machine) (t : ℕ) → t < length m.threads → turns_at (counted m t) t ≡ one_more_turn (turns_at m t)
  pub others : (m : Machine) (t u : ℕ) → (u ≡ t → ⊥) → turns_at (counted m t) u ≡ turns_at m u
  pub statuses : (m : Machine) (t u : ℕ) → status_at (counted m t) u ≡ status_at m u
  pub keeps : (m n : Machine) (t : ℕ) → KeepsRecord m t n → KeepsRecord m t (counted n t)

-- issues in a row that set no status, from a record m: their counts follow from how many entries the chooser passed
pub record RoundsCounted : Type 0 where
  pub size : (m : Machine) (passed : ℕ) (turns : List ℕ) → length (after_rounds m passed turns) ≡ length turns
  pub none : (m : Machine) (turns : List ℕ) → after_rounds m 0 turns ≡ turns
  -- where "last" has come so many entries on and a thread is chosen, it had so many turns, and has one more after its issue
  pub had : (m : Machine) (turns : List ℕ) (passed last t d : ℕ) → length turns ≡ 8 → last % 8 ≡ (m.last + passed) % 8
      → choice (with_last m last) ≡ some_chosen t d → get_or (after_rounds m passed turns) t 0 ≡ many_more ((passed + d - 1) / 8) (get_or turns t 0)
  pub one_more : (m : Machine) (turns : List ℕ) (passed last t d : ℕ) → length turns ≡ 8 → last % 8 ≡ (m.last + passed) % 8
      → choice (with_last m last) ≡ some_chosen t d
      → after_rounds m (passed + d) turns ≡ set (after_rounds m passed turns) t (one_more_turn (get_or (after_rounds m passed turns) t 0))
