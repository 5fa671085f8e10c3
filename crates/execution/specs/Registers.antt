-- The register file in the lent register file (document 01, "What a machine holds").
use Rattle.std.specs.Prelude.{◌≡◌, ℕ, ◌<◌, List, length, set, slice_index, slice_set}
use Rattle.answer.specs.Refusal.{register_words}
use Rattle.machine.specs.State.{scalar_index, lane_index, lane_mask_register, program_counter_register}
use Rattle.vector.specs.Lanes.{each, tab, lane, blended}

abbrev pub scalar : List ℕ → ℕ → ℕ → ℕ
scalar regs t i = slice_index regs (scalar_index t i)

unfoldable pub vector : List ℕ → ℕ → ℕ → List ℕ
vector regs t i = tab 16 (λ j. slice_index regs (lane_index t i j))

abbrev pub with_scalar : List ℕ → ℕ → ℕ → ℕ → List ℕ
with_scalar regs t i x = slice_set regs (scalar_index t i) x

unfoldable pub with_vector : List ℕ → ℕ → ℕ → List ℕ → List ℕ
with_vector regs t i v = each 16 (λ j l. set l (lane_index t i j) (lane v j)) regs

-- "here s59 is the mask, s63 the program counter, and the rest are plain"
abbrev pub lane_mask : List ℕ → ℕ → ℕ
lane_mask regs t = scalar regs t lane_mask_register

abbrev pub program_counter : List ℕ → ℕ → ℕ
program_counter regs t = scalar regs t program_counter_register

abbrev pub with_program_counter : List ℕ → ℕ → ℕ → List ℕ
with_program_counter regs t address = with_scalar regs t program_counter_register address

-- "a vector destination changes in lanes that are on"
unfoldable pub with_lanes_on : List ℕ → ℕ → ℕ → List ℕ → List ℕ
with_lanes_on regs t i v = with_vector regs t i (blended (lane_mask regs t) v (vector regs t i))

-- a thread's registers are all in the register file
abbrev pub InRegisters : List ℕ → ℕ → Type 0
InRegisters regs t = (length regs ≡ register_words) × (t < 8)
