-- What a machine holds: the record, the register file and data memory (document 01, "What a machine holds").
use Rattle.std.specs.Prelude.{ℕ, ◌+◌, ◌*◌, List}
use Rattle.machine.specs.Machine.{counted, with_turns}
use Rattle.machine.specs.Types.{Machine}

pub record State : Type 0 where
  pub machine : Machine
  pub registers : List ℕ
  pub memory : List ℕ

abbrev pub state : Machine → List ℕ → List ℕ → State
state m r d = record { machine = m; registers = r; memory = d }

-- a state after one issue more of a thread, and a state with other counts
abbrev pub counted_in : State → ℕ → State
counted_in s t = state (counted s.machine t) s.registers s.memory

abbrev pub recounted : State → List ℕ → State
recounted s turns = state (with_turns s.machine turns) s.registers s.memory

-- "Thread t (0..7), scalar i at 64t+i; vector i, lane j at 512+1024t+16i+j."
abbrev pub scalar_index : ℕ → ℕ → ℕ
scalar_index t i = 64 * t + i

abbrev pub lane_index : ℕ → ℕ → ℕ → ℕ
lane_index t i j = 512 + 1024 * t + 16 * i + j

-- "here s59 is the mask, s63 the program counter, and the rest are plain"
abbrev pub lane_mask_register : ℕ
lane_mask_register = 59

abbrev pub program_counter_register : ℕ
program_counter_register = 63

-- "1 jmpsr (s62 becomes own address + 4 ..), 2 jret (to s62 ..)": the link register
abbrev pub link_register : ℕ
link_register = 62
