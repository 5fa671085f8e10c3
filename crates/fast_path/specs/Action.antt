-- The fast path: it does with a word what the rules say, or leaves it to the slow path with nothing changed.
use Rattle.std.specs.Prelude.{◌≡◌, ℕ, ◌+◌, ◌/◌, ◌^◌, ◌<◌, Bool, true, false, List}
use Rattle.std.proofs.Math.Option.{Option, none, some}
use Rattle.execution.specs.Effect.{Stays, context, Step, step, executed, beside, next}
use Rattle.execution.specs.Issue.{execute_word, issue, issue_sets_status}
use Rattle.execution.specs.Jump.{jump_by}
use Rattle.execution.specs.Registers.{with_scalar}
use Rattle.word_layout.specs.Layout.{field, first_register}
use Rattle.machine.specs.State.{state, program_counter_register}
use Rattle.fast_path.specs.Types.{Action, Write, Next, Jump, Lanes, Defer, Context, Machine}

-- a word's top byte says its format and an opcode of it, and its first register is one that a scalar may be written to
pub record HasOpcode (w format count opcode : ℕ) : Type 0 where
  pub byte : w / 2 ^ 24 ≡ format + opcode
  pub listed : opcode < count
  pub free : field w first_register < program_counter_register

-- the step that an action is, of a word whose destination is d
abbrev pub step_of : Context → ℕ → List ℕ → Action → Option Step
step_of c d regs (Write x) = some (next c (with_scalar regs c.thread d x))
step_of c d regs Next = some (next c regs)
step_of c d regs (Jump offset) = some (jump_by c regs regs offset)
step_of c d regs Lanes = none
step_of c d regs Defer = none

-- the rules execute a word as this step, if there is one
abbrev pub Executes : Context → ℕ → List ℕ → List ℕ → Option Step → Type 0
Executes c w regs memory (some s) = execute_word c regs memory w ≡ beside s memory
Executes c w regs memory none = Unit {0}

abbrev pub Acts : Context → ℕ → List ℕ → List ℕ → Action → Type 0
Acts c w regs memory a = Executes c w regs memory (step_of c (field w first_register) regs a)

-- the same of a word that reads memory, wherever it stands, and of one on registers alone
abbrev pub ActsOn : ℕ → ℕ → List ℕ → List ℕ → Action → Type 0
ActsOn t w regs memory a = (pc enabled words turns : ℕ) → Acts (context t pc enabled words turns) w regs memory a

abbrev pub ActsAnywhere : ℕ → ℕ → List ℕ → Action → Type 0
ActsAnywhere t w regs a = (memory : List ℕ) → ActsOn t w regs memory a

-- an answer true says that the thread has gone on by this step; an answer false, that no register changed
abbrev pub Goes : Option Step → List ℕ → Bool → List ℕ → Type 0
Goes s regs true after = s ≡ some (step Stays after)
Goes s regs false after = after ≡ regs

-- the same of an action, whatever the enabled mask is, and however many turns the thread has had
abbrev pub GoesBy : ℕ → ℕ → ℕ → ℕ → List ℕ → Action → Bool → List ℕ → Type 0
GoesBy t pc words d regs a r after = (enabled turns : ℕ) → Goes (step_of (context t pc enabled words turns) d regs a) regs r after

-- an answer true says that the word was executed and the thread goes on; an answer false, that nothing changed
abbrev pub Tried : Context → ℕ → List ℕ → List ℕ → Bool → List ℕ → List ℕ → Type 0
Tried c w regs memory true after stored = executed Stays after stored ≡ execute_word c regs memory w
Tried c w regs memory false after stored = (after ≡ regs) × (stored ≡ memory)

-- the same of a store, whatever the program is, and of any word
abbrev pub TriedStore : ℕ → ℕ → ℕ → List ℕ → List ℕ → Bool → List ℕ → List ℕ → Type 0
TriedStore t pc w regs memory r after stored = (enabled words turns : ℕ) → Tried (context t pc enabled words turns) w regs memory r after stored

abbrev pub TriedWord : ℕ → ℕ → ℕ → ℕ → List ℕ → List ℕ → Bool → List ℕ → List ℕ → Type 0
TriedWord t pc words w regs memory r after stored = (enabled turns : ℕ) → Tried (context t pc enabled words turns) w regs memory r after stored

-- an answer true says that the issue was made, whatever the record is, and set no status; an answer false, that nothing changed
abbrev pub TriedIssue : List ℕ → ℕ → List ℕ → List ℕ → Bool → List ℕ → List ℕ → Type 0
TriedIssue p t regs memory true after stored =
    (m : Machine) (turns : ℕ)
    → (state m after stored ≡ issue p (state m regs memory) t turns) × (false ≡ issue_sets_status p (state m regs memory) t turns)
TriedIssue p t regs memory false after stored = (after ≡ regs) × (stored ≡ memory)
