-- What is proved of the definitions.
use Rattle.std.specs.Prelude.{ℕ, ◌-◌, ◌%◌, ◌<◌, ◌^◌, ◌+◌, ◌≤◌, cond, ◌≡◌, List, [], ◌∷◌, pos, ◌+ℤ◌, length}
use Rattle.std.proofs.Math.IntN.{sub_ℕ}
use Rattle.alu.specs.Unary.{unary}
use Rattle.twos_complement.specs.Word.{value}
use Rattle.vector.specs.Lanes.{lane, is_on}
use Rattle.memory.specs.Types.{LoadOp, Load8, Load16, Load32, Load8u, Load16u, StoreOp, Store8, Store16, Store32, Sext8, Sext16}
use Rattle.answer.specs.Reason.{misaligned, outside-memory}
use Rattle.memory.specs.Attempt.{Attempt, done, fault, onward}
use Rattle.memory.specs.Place.{biased, place}
use Rattle.memory.specs.Operation.{bytes_loaded, vector_place, load, store, store_lanes, load_lanes}

-- "Address is base, read unsigned, plus offset and does not wrap.": the address, less what it is held with, is the signed sum.
abbrev pub AddressIsSum : Type 0
AddressIsSum = (base offset : ℕ) → offset < 2 ^ 32 → sub_ℕ (biased base offset) (2 ^ 32) ≡ pos base +ℤ value 32 offset

-- "Memory 64, load32: address 60 good, 62 reason 1, 64 and -4 reason 2, base 0xFFFFFFFC plus 4 reason 2."
pub record Figure : Type 0 where
  pub base : ℕ
  pub offset : ℕ
  pub place : Attempt ℕ

abbrev row : ℕ → ℕ → Attempt ℕ → Figure
row base offset place = record { base = base; offset = offset; place = place }

abbrev pub figures : List Figure
figures =
    row 60 0 (done 60) ∷ row 62 0 (fault misaligned) ∷ row 64 0 (fault outside-memory) ∷ row 0 (2 ^ 32 - 4) (fault outside-memory) ∷ row 0 (2 ^ 32 - 2) (fault misaligned)
    ∷ row 0xFFFFFFFC 4 (fault outside-memory) ∷ []

abbrev pub All : (Figure → Type 0) → List Figure → Type 0
All holds [] = Unit {0}
All holds (r ∷ rs) = holds r × All holds rs

abbrev pub Figures : Type 0
Figures = All (λ r. place (bytes_loaded Load32) (bytes_loaded Load32) 64 (biased r.base r.offset) ≡ r.place) figures

-- Document 02, T-04: "in a 64-byte memory address 0 is good, 4 gives reason 2."; and 2 gives reason 1, -4 reason 2
abbrev pub vector_figures : List Figure
vector_figures = row 0 0 (done 0) ∷ row 4 0 (fault outside-memory) ∷ row 2 0 (fault misaligned) ∷ row 0 (2 ^ 32 - 4) (fault outside-memory) ∷ []

-- "All 64 bytes are still range-checked": so in each memory of 64 bytes, whatever lanes are on, also where none is
pub record OfVectors (r : Figure) : Type 0 where
  pub goes : (m : List ℕ) → length m ≡ 64 → vector_place m r.base r.offset ≡ r.place
  pub loads : (m : List ℕ) → length m ≡ 64 → (load_lanes m r.base r.offset).answer ≡ onward r.place (λ a. tt)
  pub stores : (m : List ℕ) (mask : ℕ) (v : List ℕ) → length m ≡ 64
      → (store_lanes m r.base r.offset mask v).answer ≡ onward r.place (λ a. tt)

abbrev pub VectorFigures : Type 0
VectorFigures = All OfVectors vector_figures

-- "a multiple of 4, not 64": a vector goes to any word that has 64 bytes of memory from there on
abbrev pub VectorsAtAnyWord : Type 0
VectorsAtAnyWord = (m : List ℕ) (a : ℕ) → a % 4 ≡ 0 → a + 64 ≤ length m → vector_place m a 0 ≡ done a

-- a store changes no length, and a vector load gives sixteen lanes
pub record Lengths : Type 0 where
  pub of-store : (op : StoreOp) (m : List ℕ) (base offset value : ℕ) → length (store op m base offset value).memory ≡ length m
  pub of-store-lanes : (m : List ℕ) (base offset mask : ℕ) (v : List ℕ) → length (store_lanes m base offset mask v).memory ≡ length m
  pub of-load-lanes : (m : List ℕ) (base offset : ℕ) → length (load_lanes m base offset).lanes ≡ 16

-- "Little endian.", "load16 (sign kept)", "load16u", "store16": computed on memories of four bytes
pub record Rows : Type 0 where
  pub loaded : load Load32 (0x78 ∷ 0x56 ∷ 0x34 ∷ 0x12 ∷ []) 0 0 ≡ done 0x12345678
  pub signed : load Load16 (0x78 ∷ 0x56 ∷ 0xFE ∷ 0xFF ∷ []) 0 2 ≡ done 0xFFFFFFFE
  pub unsigned : load Load16u (0x78 ∷ 0x56 ∷ 0xFE ∷ 0xFF ∷ []) 0 2 ≡ done 0x0000FFFE
  pub stored : (store Store16 (1 ∷ 2 ∷ 3 ∷ 4 ∷ []) 0 2 0x12345678).memory ≡ 1 ∷ 2 ∷ 0x78 ∷ 0x56 ∷ []

-- A load after a store.

-- if the store is done, the load at the same address gives r
abbrev pub Gives : StoreOp → LoadOp → List ℕ → ℕ → ℕ → ℕ → ℕ → Type 0
Gives s l m base offset v r = (store s m base offset v).answer ≡ done tt → load l (store s m base offset v).memory base offset ≡ done r

-- "0 load8, 1 load16 (sign kept), 2 load32, 4 load8u, 5 load16u", "32 store8, 33 store16, 34 store32": the value stored, as far as its
-- bytes hold it
pub record LoadsBack (m : List ℕ) (base offset v : ℕ) : Type 0 where
  pub signed8 : Gives Store8 Load8 m base offset v (unary Sext8 v)
  pub signed16 : Gives Store16 Load16 m base offset v (unary Sext16 v)
  pub whole : v < 2 ^ 32 → Gives Store32 Load32 m base offset v v
  pub unsigned8 : Gives Store8 Load8u m base offset v (v % 2 ^ 8)
  pub unsigned16 : Gives Store16 Load16u m base offset v (v % 2 ^ 16)

abbrev pub LoadAfterStore : Type 0
LoadAfterStore = (m : List ℕ) (base offset v : ℕ) → LoadsBack m base offset v

-- "Vector forms touch lanes that are on": lane j loaded after a vector store is the one stored if it is on, and else the one there before
abbrev pub LanesAfterStore : Type 0
LanesAfterStore = (m : List ℕ) (base offset mask : ℕ) (v : List ℕ) (j : ℕ) → (store_lanes m base offset mask v).answer ≡ done tt
    → j < 16 → lane v j < 2 ^ 32
    → lane (load_lanes (store_lanes m base offset mask v).memory base offset).lanes j
    ≡ cond (is_on mask j) (lane v j) (lane (load_lanes m base offset).lanes j)
