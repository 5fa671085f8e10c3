-- Issues in a row within a run, and where a run ends: what the parts of the call `run` promise each other.
use Rattle.std.specs.Prelude.{ℕ, ◌+◌, ◌-◌, ◌*◌, ◌%◌, ◌<◌, ◌≤◌, Bool, true, false, List, [], ◌≡◌, length, Option, Some, None}
use Rattle.answer.specs.Refusal.{program_words, register_words}
use Rattle.machine.specs.Rounds.{after_rounds}
use Rattle.machine.specs.Scheduler.{some_chosen, choice, with_last}
use Rattle.machine.specs.State.{State, state, recounted}
use Rattle.interpreter.specs.Answer.{ending_of}
use Rattle.interpreter.specs.Choosing.{issues, reached, ending_at, look, looks_for}
use Rattle.interpreter.specs.Types.{Machine, Stop, FastIssues, Stretch}

-- a run from `first` with the budget b has come to s, with so many issues made, and so many entries looked at for them
pub record Carried (p : List ℕ) (b : ℕ) (first : State) (made looked : ℕ) (s : State) : Type 0 where
  pub state : reached p b first ≡ reached p (b - made) s
  pub count : length (issues p b first) ≡ made + length (issues p (b - made) s)
  pub looks : looks_for (issues p b first) ≡ looked + looks_for (issues p (b - made) s)

-- within a stretch that began with the record m and the counts `turns`: so many issues are left in the budget b, "last" has passed so many
-- entries, and it is there now
pub record Along (p : List ℕ) (b : ℕ) (first : State) (m : Machine) (turns : List ℕ) (left passed last : ℕ) (registers memory : List ℕ) : Type 0 where
  pub within : left ≤ b
  pub there : last % 8 ≡ (m.last + passed) % 8
  pub carried : Carried p b first (b - left) passed (recounted (state (with_last m last) registers memory) (after_rounds m passed turns))

-- the same with the thread t chosen and counted, whose issue is still to be made
pub record Awaits (p : List ℕ) (b : ℕ) (first : State) (m : Machine) (turns : List ℕ) (left passed t : ℕ) (registers memory : List ℕ) : Type 0 where
  pub before : ℕ
  pub until : ℕ
  pub distance : ℕ
  pub along : Along p b first m turns (left + 1) until before registers memory
  pub chosen : choice (with_last m before) ≡ some_chosen t distance
  pub sum : passed ≡ until + distance

-- the same before such a choice, of the thread t at the distance d
pub record Chooses (p : List ℕ) (b : ℕ) (first : State) (m : Machine) (turns : List ℕ) (left passed t d : ℕ) (registers memory : List ℕ) : Type 0 where
  pub before : ℕ
  pub along : Along p b first m turns left passed before registers memory
  pub chosen : choice (with_last m before) ≡ some_chosen t d

-- where issues of the fast path have come to, by whether the last is deferred
abbrev pub StandsAt : List ℕ → ℕ → State → Machine → List ℕ → FastIssues → List ℕ → List ℕ → Bool → Type 0
StandsAt p b first m turns r after stored true = Awaits p b first m turns r.left r.passed r.last after stored
StandsAt p b first m turns r after stored false = Along p b first m turns r.left r.passed r.last after stored

-- those of one thread go on with a stretch, wherever it began: it is chosen, and again as long as it was "last" already
abbrev pub Goes : List ℕ → ℕ → ℕ → Bool → ℕ → ℕ → List ℕ → List ℕ
    → ((b : ℕ) → State → Machine → List ℕ → Type 0) → Type 0
Goes p t d others left passed registers memory There =
    (b : ℕ) (first : State) (m : Machine) (turns : List ℕ) (last : ℕ) → length p ≤ program_words → length registers ≡ register_words → length turns ≡ 8
    → (others ≡ false → last ≡ t) → choice (with_last m last) ≡ some_chosen t d → Along p b first m turns left passed last registers memory
    → There b first m turns

pub record Repeats (p : List ℕ) (t d : ℕ) (others : Bool) (left passed : ℕ) (registers memory : List ℕ) (r : FastIssues) (after stored : List ℕ) : Type 0 where
  pub last : r.last ≡ t
  pub fewer : r.left < left
  pub bound : r.passed + 8 * r.left ≤ passed + 8 * left
  pub goes : Goes p t d others left passed registers memory (λ b first m turns. StandsAt p b first m turns r after stored r.deferred)

-- those of all threads do, and where none is deferred there was no other to make
abbrev pub CameTo : List ℕ → ℕ → State → Machine → List ℕ → FastIssues → List ℕ → List ℕ → Bool → Type 0
CameTo p b first m turns r after stored true = StandsAt p b first m turns r after stored true
CameTo p b first m turns r after stored false =
    StandsAt p b first m turns r after stored false × ((t d : ℕ) → choice (with_last m r.last) ≡ some_chosen t d → r.left ≡ 0)

abbrev pub Continues : List ℕ → Machine → ℕ → ℕ → ℕ → List ℕ → List ℕ → FastIssues → List ℕ → List ℕ → Type 0
Continues p m left passed last registers memory r after stored =
    (b : ℕ) (first : State) (turns : List ℕ) → length turns ≡ 8 → Along p b first m turns left passed last registers memory
    → CameTo p b first m turns r after stored r.deferred

-- with so many left in the budget nothing more is issued from s, where a run ends so
pub record Over (p : List ℕ) (left : ℕ) (s : State) (stop : Stop) : Type 0 where
  pub stays : reached p left s ≡ s
  pub none : issues p left s ≡ []
  pub ending : ending_at s ≡ ending_of stop

-- the last look, where the run ends
abbrev pub last_look : Option Stop → ℕ → ℕ
last_look None look = 0
last_look (Some stop) look = look

-- from `first` with the budget b, a stretch r of issues has come to s
pub record Stretched (p : List ℕ) (b : ℕ) (first : State) (r : Stretch) (s : State) : Type 0 where
  pub carried : Carried p b first (b - r.left) r.passed s
  pub within : r.left ≤ b
  pub some-made : r.stop ≡ None → r.left < b
  pub over : (stop : Stop) → r.stop ≡ Some stop → Over p r.left s stop
  -- where nothing more is issued, there was the last look too
  pub looks : r.looks ≡ r.passed + last_look r.stop (look s)
