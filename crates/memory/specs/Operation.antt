-- Loads and stores (document 01, "The words", M).
use Rattle.std.specs.Prelude.{ℕ, ◌+◌, ◌*◌, cond, List, length, Result, Ok, Err}
use Rattle.answer.specs.declared.reason.Reason.{Reason}
use Rattle.answer.specs.Reason.{reason_of}
use Rattle.alu.specs.Unary.{unary}
use Rattle.vector.specs.Lanes.{tab, each, lane, is_on}
use Rattle.memory.specs.Types.{LoadOp, Load8, Load16, Load32, Load8u, Load16u, StoreOp, Store8, Store16, Store32, Sext8, Sext16}
use Rattle.memory.specs.Attempt.{Attempt, done, fault, onward, of_result}
use Rattle.memory.specs.Place.{biased, place}
use Rattle.little_endian.specs.Numbers.{number_at, with_number}

-- "0 load8, 1 load16 (sign kept), 2 load32, 4 load8u, 5 load16u": how many bytes,
abbrev pub bytes_loaded : LoadOp → ℕ
bytes_loaded Load8 = 1
bytes_loaded Load16 = 2
bytes_loaded Load32 = 4
bytes_loaded Load8u = 1
bytes_loaded Load16u = 2

-- and what their number becomes
abbrev pub widened : LoadOp → ℕ → ℕ
widened Load8 n = unary Sext8 n
widened Load16 n = unary Sext16 n
widened Load32 n = n
widened Load8u n = n
widened Load16u n = n

-- "32 store8, 33 store16, 34 store32"
abbrev pub bytes_stored : StoreOp → ℕ
bytes_stored Store8 = 1
bytes_stored Store16 = 2
bytes_stored Store32 = 4

-- "Not a multiple of 2, 4 ..": a scalar form's address is a multiple of its size.
abbrev pub scalar_place : ℕ → List ℕ → ℕ → ℕ → Attempt ℕ
scalar_place size memory base offset = place size size (length memory) (biased base offset)

-- Document 02, T-04: "A vector load or store now needs an address that is a multiple of 4, not 64."
abbrev pub vector_alignment : ℕ
vector_alignment = 4

-- "All 64 bytes are still range-checked"
abbrev pub vector_place : List ℕ → ℕ → ℕ → Attempt ℕ
vector_place memory base offset = place vector_alignment 64 (length memory) (biased base offset)

unfoldable pub load : LoadOp → List ℕ → ℕ → ℕ → Attempt ℕ
load op memory base offset = onward (scalar_place (bytes_loaded op) memory base offset) (λ a. widened op (number_at (bytes_loaded op) memory a))

-- what a store gives and leaves
pub record StoreResult : Type 0 where
  pub answer : Attempt (Unit {0})
  pub memory : List ℕ

abbrev pub store_result : Result (Unit {0}) Reason → List ℕ → StoreResult
store_result r m = record { answer = of_result r; memory = m }

-- a memory that changes only where the place is good
abbrev pub changed : Attempt ℕ → List ℕ → (ℕ → List ℕ) → StoreResult
changed (done a) m f = record { answer = done tt; memory = f a }
changed (fault reason) m f = record { answer = fault reason; memory = m }

unfoldable pub store : StoreOp → List ℕ → ℕ → ℕ → ℕ → StoreResult
store op m base offset value = changed (scalar_place (bytes_stored op) m base offset) m (λ a. with_number (bytes_stored op) m a value)

-- what a vector load gives: no lanes with a fault
pub record VectorLoad : Type 0 where
  pub answer : Attempt (Unit {0})
  pub lanes : List ℕ

abbrev pub of_lanes : Result (List ℕ) Reason → VectorLoad
of_lanes (Ok v) = record { answer = done tt; lanes = v }
of_lanes (Err reason) = record { answer = fault (reason_of reason); lanes = tab 16 (λ j. 0) }

-- "Vector forms touch lanes that are on, four bytes each"
unfoldable pub lanes_at : List ℕ → ℕ → List ℕ
lanes_at m a = tab 16 (λ j. number_at 4 m (a + 4 * j))

abbrev pub vector_load : Attempt ℕ → List ℕ → VectorLoad
vector_load (done a) m = record { answer = done tt; lanes = lanes_at m a }
vector_load (fault reason) m = record { answer = fault reason; lanes = tab 16 (λ j. 0) }

unfoldable pub load_lanes : List ℕ → ℕ → ℕ → VectorLoad
load_lanes m base offset = vector_load (vector_place m base offset) m

-- the lanes that are on stored from place a on
unfoldable pub with_lanes : List ℕ → ℕ → ℕ → List ℕ → List ℕ
with_lanes m a mask v = each 16 (λ j l. cond (is_on mask j) (with_number 4 l (a + 4 * j) (lane v j)) l) m

unfoldable pub store_lanes : List ℕ → ℕ → ℕ → ℕ → List ℕ → StoreResult
store_lanes m base offset mask v = changed (vector_place m base offset) m (λ a. with_lanes m a mask v)
