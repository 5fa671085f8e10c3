-- Loads and stores of registers (document 01, "The words", M).
use Rattle.std.specs.Prelude.{ℕ, List}
use Rattle.memory.specs.Attempt.{Attempt, done, fault}
use Rattle.memory.specs.Operation.{load, store, load_lanes, store_lanes, StoreResult, VectorLoad}
use Rattle.execution.specs.Effect.{Step, trapped, next, Executed, beside}
use Rattle.execution.specs.Registers.{scalar, vector, with_scalar, lane_mask, with_lanes_on}
use Rattle.execution.specs.Types.{Context, MemoryOp, Load, Store, LoadVector, StoreVector, LoadOp, StoreOp}

-- what is done leads on, with these registers; a trap has its reason
abbrev pub attempted : {A : Type 0} → Context → List ℕ → Attempt A → (A → List ℕ) → Step
attempted c regs (done x) registers = next c (registers x)
attempted c regs (fault reason) registers = trapped reason regs

-- what a store leaves in memory, where it is done, belongs to what it gives
abbrev pub stored : Context → List ℕ → StoreResult → Executed
stored c regs o = beside (attempted c regs o.answer (λ x. regs)) o.memory

abbrev pub vector_loaded : Context → List ℕ → ℕ → VectorLoad → Step
vector_loaded c regs register g = attempted c regs g.answer (λ x. with_lanes_on regs c.thread register g.lanes)

-- "register 23-18, scalar base 17-12, signed offset 11-3"; "Scalar forms ignore the mask."; "Vector forms touch lanes that are on"
unfoldable pub load_into : Context → List ℕ → List ℕ → LoadOp → ℕ → ℕ → ℕ → Step
load_into c regs memory op register base offset =
    attempted c regs (load op memory (scalar regs c.thread base) offset) (λ x. with_scalar regs c.thread register x)

unfoldable pub store_from : Context → List ℕ → List ℕ → StoreOp → ℕ → ℕ → ℕ → Executed
store_from c regs memory op register base offset =
    stored c regs (store op memory (scalar regs c.thread base) offset (scalar regs c.thread register))

unfoldable pub load_lanes_into : Context → List ℕ → List ℕ → ℕ → ℕ → ℕ → Step
load_lanes_into c regs memory register base offset = vector_loaded c regs register (load_lanes memory (scalar regs c.thread base) offset)

unfoldable pub store_lanes_from : Context → List ℕ → List ℕ → ℕ → ℕ → ℕ → Executed
store_lanes_from c regs memory register base offset =
    stored c regs
    (store_lanes memory (scalar regs c.thread base) offset (lane_mask regs c.thread) (vector regs c.thread register))

abbrev pub access : Context → List ℕ → List ℕ → MemoryOp → ℕ → ℕ → ℕ → Executed
access c regs memory (Load op) register base offset = beside (load_into c regs memory op register base offset) memory
access c regs memory (Store op) register base offset = store_from c regs memory op register base offset
access c regs memory LoadVector register base offset = beside (load_lanes_into c regs memory register base offset) memory
access c regs memory StoreVector register base offset = store_lanes_from c regs memory register base offset
