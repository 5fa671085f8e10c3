-- What is proved of one issue, for other crates to cite.
use Rattle.std.specs.Prelude.{◌≡◌, ℕ, ◌+◌, ◌/◌, ◌^◌, ◌<◌, ◌≤◌, true, false, cond, List, length, ◌≢◌, slice_index, slice_index_or}
use Rattle.answer.specs.Refusal.{program_words, register_words}
use Rattle.bits.specs.Bit.{is_set}
use Rattle.word_layout.specs.Layout.{bits}
use Rattle.machine.specs.Claims.{KeepsRecord}
use Rattle.machine.specs.Machine.{status_at, turns_of}
use Rattle.machine.specs.Scheduler.{runs}
use Rattle.machine.specs.State.{State, recounted, lane_index}
use Rattle.vector.specs.Lanes.{is_on}
use Rattle.execution.specs.Issue.{perform, issue, issue_sets_status}
use Rattle.execution.specs.Jump.{in_program}
use Rattle.execution.specs.Registers.{scalar, lane_mask, program_counter}
use Rattle.execution.specs.Types.{Trapped}

-- what an issue makes of the record
abbrev pub Performs : Type 0
Performs = (p : List ℕ) (s : State) (t turns : ℕ) → KeepsRecord s.machine t (perform p s t turns).machine

-- an issue changes no length
pub record Lengths : Type 0 where
  pub of-registers : (p : List ℕ) (s : State) (t turns : ℕ) → length (perform p s t turns).registers ≡ length s.registers
  pub of-memory : (p : List ℕ) (s : State) (t turns : ℕ) → length (perform p s t turns).memory ≡ length s.memory

-- the total form is the rules' own in registers of the right size, for one of the eight threads
abbrev pub Issues : Type 0
Issues = (p : List ℕ) (s : State) (t turns : ℕ) → length p ≤ program_words → length s.registers ≡ register_words → t < 8
    → issue p s t turns ≡ perform p s t turns

-- an issue that sets no status leaves the record
abbrev pub Untouched : Type 0
Untouched = (p : List ℕ) (s : State) (t turns : ℕ) → issue_sets_status p s t turns ≡ false → (issue p s t turns).machine ≡ s.machine

-- an issue is counted elsewhere: it leaves every count
abbrev pub Uncounted : Type 0
Uncounted = (p : List ℕ) (s : State) (t turns : ℕ) → turns_of (perform p s t turns).machine ≡ turns_of s.machine

-- an issue goes by the count that it is told, and by none that the record holds: with other counts there it does the same and leaves them
abbrev pub Recounts : Type 0
Recounts = (p : List ℕ) (s : State) (others : List ℕ) (t turns : ℕ)
    → perform p (recounted s others) t turns ≡ recounted (perform p s t turns) others

-- "A trap changes only that entry's status and "last"", and "a trap changes the count too" (02, T-05). The thread became "last" when it
-- was chosen and its issue is counted when it has been made, so that the trap of thread t leaves all else of a state s.
pub record TrapsOnly (s : State) (t : ℕ) (n : State) : Type 0 where
  pub registers : n.registers ≡ s.registers
  pub memory : n.memory ≡ s.memory
  pub enabled : n.machine.enabled ≡ s.machine.enabled
  pub last : n.machine.last ≡ s.machine.last
  pub turns : turns_of n.machine ≡ turns_of s.machine
  pub others : (u : ℕ) → (u ≢ t) → status_at n.machine u ≡ status_at s.machine u

-- whichever check it is that traps
abbrev pub TrapsAlone : Type 0
TrapsAlone = (p : List ℕ) (s : State) (t turns reason : ℕ) → runs s.machine t ≡ true
    → status_at (perform p s t turns).machine t ≡ Trapped reason → TrapsOnly s t (perform p s t turns)

-- The next word of thread t is w, one of movei: by its bits alone.
pub record NextIsMovei (p : List ℕ) (s : State) (t w : ℕ) : Type 0 where
  pub thread : t < 8
  pub regs : length s.registers ≡ register_words
  pub in-program : in_program (length p) (program_counter s.registers t) ≡ true
  pub word : slice_index_or p (program_counter s.registers t / 4) 0 ≡ w
  pub format-and-opcode : w / 2 ^ 24 ≡ 0x62
  pub bit0 : bits w 0 0 ≡ 0

-- its bits 17-2, and above them sixteen bits that are all as bit 17 is
abbrev pub sign_extended : ℕ → ℕ
sign_extended w = cond (is_set w 17) (0xFFFF0000 + bits w 17 2) (bits w 17 2)

-- "From now on movei extends the sign into the high half" (02, T-02): an issue of it gives that number, whatever the register held, a scalar
-- or a lane that is on. A reader and a writer that agreed on another number would fail here.
pub record MoveiExtends : Type 0 where
  pub scalars : (p : List ℕ) (s : State) (t turns w : ℕ) → NextIsMovei p s t w → bits w 1 1 ≡ 0 → bits w 23 18 < 63
      → scalar (perform p s t turns).registers t (bits w 23 18) ≡ sign_extended w
  pub lanes : (p : List ℕ) (s : State) (t turns w j : ℕ) → NextIsMovei p s t w → bits w 1 1 ≡ 1 → j < 16
      → is_on (lane_mask s.registers t) j ≡ true → slice_index (perform p s t turns).registers (lane_index t (bits w 23 18) j) ≡ sign_extended w

-- a thread has the same registers in two register files
pub record SameRegisters (t : ℕ) (before after : List ℕ) : Type 0 where
  pub scalars : (i : ℕ) → i < 64 → scalar after t i ≡ scalar before t i
  pub lanes : (i j : ℕ) → i < 64 → j < 16 → slice_index after (lane_index t i j) ≡ slice_index before (lane_index t i j)

-- an issue leaves every other thread's registers
abbrev pub OthersKeepRegisters : Type 0
OthersKeepRegisters = (p : List ℕ) (s : State) (t turns u : ℕ) → t < 8 → u < 8 → (u ≢ t)
    → SameRegisters u s.registers (perform p s t turns).registers
