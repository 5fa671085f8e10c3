-- Words on vectors: what the fast path does with those whose lanes are all on, and with compares.
use Rattle.std.specs.Prelude.{◌≡◌, ℕ, ◌-◌, ◌%◌, ◌^◌, Bool, List, ◌==◌}
use Rattle.compares.specs.Lanes.{compare_lanes}
use Rattle.execution.specs.Effect.{context, beside, next}
use Rattle.execution.specs.Issue.{execute_word}
use Rattle.execution.specs.Registers.{lane_mask, with_scalar, with_lanes_on}
use Rattle.isa.specs.Table.{row_r}
use Rattle.vector.specs.Lanes.{binary_lanes}
use Rattle.word_layout.specs.Layout.{field, first_register}
use Rattle.fast_path.specs.Action.{Tried}
use Rattle.fast_path.specs.Types.{BinaryOp, CompareOp, Binary, Compare}

-- every lane of a thread is on
abbrev pub all_on : List ℕ → ℕ → Bool
all_on regs t = lane_mask regs t % 2 ^ 16 == 2 ^ 16 - 1

-- the rules execute a word, wherever it stands, as one that leaves these registers but for the program counter
abbrev pub LeavesIn : ℕ → ℕ → List ℕ → List ℕ → List ℕ → Type 0
LeavesIn t w regs memory after = (pc enabled words turns : ℕ)
    → execute_word (context t pc enabled words turns) regs memory w ≡ beside (next (context t pc enabled words turns) after) memory

abbrev pub Leaves : ℕ → ℕ → List ℕ → List ℕ → Type 0
Leaves t w regs after = (memory : List ℕ) → LeavesIn t w regs memory after

-- the same of a word whose vector destination gets lanes
abbrev pub PutsLanes : ℕ → ℕ → List ℕ → List ℕ → Type 0
PutsLanes t w regs v = Leaves t w regs (with_lanes_on regs t (field w first_register) v)

-- of one that combines lanes x and y, whichever operation its opcode is
abbrev pub Combines : ℕ → ℕ → List ℕ → ℕ → List ℕ → List ℕ → Type 0
Combines t w regs opcode x y = (op : BinaryOp) → (row_r (Binary op)).opcode ≡ opcode → PutsLanes t w regs (binary_lanes op x y)

-- and of one that compares them
abbrev pub ComparesLanes : ℕ → ℕ → List ℕ → ℕ → List ℕ → List ℕ → Type 0
ComparesLanes t w regs opcode x y = (op : CompareOp) → (row_r (Compare op)).opcode ≡ opcode
    → Leaves t w regs (with_scalar regs t (field w first_register) (compare_lanes op (lane_mask regs t) x y))

-- trying a word that neither reads memory nor jumps
abbrev pub TriedLanes : ℕ → ℕ → ℕ → List ℕ → Bool → List ℕ → Type 0
TriedLanes t pc w regs r after = (memory : List ℕ) (enabled words turns : ℕ)
    → Tried (context t pc enabled words turns) w regs memory r after memory
