-- Proofs of the claims.
use mathlib.Core.Path.{◌≡◌, refl, sym, ap, ◌∙◌}
use mathlib.Core.Bool.{Bool, true, false, cond}
use mathlib.Core.List.{List}
use Prim.Native.Nat.{ℕ, ◌%◌, zero, suc, ◌+◌, ◌-◌, ◌*◌, ◌^◌, ◌≤◌, ◌<◌}
use native.Mathlib.Omega.{arith}
use lib.Dec.{leb, ltb}
use lib.IntN.{pos, negsuc, sub_ℕ, ◌+ℤ◌}
use lib.ListN.{length}
use borrow.Author.Tests.{eq-eqb, le-leb, leb-true, leb-false, lt-ltb, le-ltb, ltb-true, ltb-false}
use Rattle.twos_complement.specs.Word.{value}
use Rattle.vector.specs.Lanes.{each, lane, is_on}
use Rattle.vector.proofs.Filling.{tab-length}
use Rattle.twos_complement.proofs.Sign.{value-positive, value-negative}
use Rattle.little_endian.proofs.Numbers.{kept-number}
use Rattle.memory.proofs.Places.{when-good}
use Rattle.memory.specs.Place.{biased, place}
use Rattle.memory.specs.Attempt.{Attempt, done, fault, onward}
use Rattle.little_endian.specs.Numbers.{number_at, with_number}
use Rattle.memory.specs.Operation.{bytes_stored, scalar_place, vector_alignment, vector_place, changed, load, store, with_lanes, store_lanes, lanes_at, vector_load, load_lanes}
use Rattle.memory.specs.Claims.{AddressIsSum, Figure, Figures, OfVectors, VectorFigures, VectorsAtAnyWord, Rows, Lengths}

-- two differences that are the same
same-difference : (a b c d : ℕ) → a + d ≡ c + b → sub_ℕ a b ≡ sub_ℕ c d
same-difference a b c d e = go (ltb a b) refl
  where
    go : (t : Bool) → ltb a b ≡ t → sub_ℕ a b ≡ sub_ℕ c d
    go true f =
        let h : a < b = ltb-true a b f in
        rw (f, lt-ltb c d (omega arith)) (ap negsuc (omega arith))
    go false f =
        let h : b ≤ a = ltb-false a b f in
        rw (f, le-ltb c d (omega arith)) (ap pos (omega arith))

pub address-is-sum : AddressIsSum
address-is-sum base offset ho = go (leb (2 ^ 31) offset) refl
  where
    go : (t : Bool) → leb (2 ^ 31) offset ≡ t → sub_ℕ (biased base offset) (2 ^ 32) ≡ pos base +ℤ value 32 offset
    go true e =
        rw e (same-difference (base + offset) (2 ^ 32) base (suc (2 ^ 32 - suc offset)) (omega arith))
        ∙ sym (ap (λ z. pos base +ℤ z) (value-negative 32 offset (leb-true (2 ^ 31) offset e) ho))
    go false e =
        rw e (rw (le-ltb (base + (2 ^ 32 + offset)) (2 ^ 32) (omega arith)) (ap pos (omega arith)))
        ∙ sym (ap (λ z. pos base +ℤ z) (value-positive 32 offset (leb-false (2 ^ 31) offset e)))

-- each row by computing
pub figures-hold : Figures
unfolding place
figures-hold = (refl, (refl, (refl, (refl, (refl, (refl, tt))))))

-- the answer of a vector form is that of its place
load-answers : (p : Attempt ℕ) (m : List ℕ) → (vector_load p m).answer ≡ onward p (λ a. tt)
load-answers (done a) m = refl
load-answers (fault reason) m = refl

store-answers : (p : Attempt ℕ) (m : List ℕ) (f : ℕ → List ℕ) → (changed p m f).answer ≡ onward p (λ a. tt)
store-answers (done a) m f = refl
store-answers (fault reason) m f = refl

-- a row, from its place in a memory of 64 bytes
of-vectors : (r : Figure) → place vector_alignment 64 64 (biased r.base r.offset) ≡ r.place → OfVectors r
unfolding load_lanes store_lanes
of-vectors r e = record {
  goes = λ m h. rw (h, e);
  loads = λ m h. load-answers (vector_place m r.base r.offset) m ∙ rw (h, e);
  stores = λ m mask v h. store-answers (vector_place m r.base r.offset) m (λ a. with_lanes m a mask v) ∙ rw (h, e);
}

pub vector-figures-hold : VectorFigures
unfolding place
vector-figures-hold = (of-vectors _ refl, (of-vectors _ refl, (of-vectors _ refl, (of-vectors _ refl, tt))))

pub vectors-at-any-word : VectorsAtAnyWord
vectors-at-any-word m a e h =
    when-good 4 64 (length m) (biased a 0) (eq-eqb (biased a 0 % 4) 0 (omega (arith, e)))
    (rw (le-leb (2 ^ 32) (biased a 0) (omega arith), le-leb (biased a 0 + 64) (2 ^ 32 + length m) (omega (arith, h))))
    ∙ ap done (omega arith)

pub rows-hold : Rows
unfolding load store place number_at with_number
rows-hold = record { loaded = refl; signed = refl; unsigned = refl; stored = refl }

-- ---- lengths

pub kept-each : (n : ℕ) (g : ℕ → List ℕ → List ℕ) (m : List ℕ) → ((j : ℕ) (l : List ℕ) → length (g j l) ≡ length l) → length (each n g m) ≡ length m
unfolding each
kept-each zero g m h = refl
kept-each (suc n) g m h = h n (each n g m) ∙ kept-each n g m h

pub kept_if : (t : Bool) (l m : List ℕ) → length l ≡ length m → length (cond t l m) ≡ length m
kept_if true l m h = h
kept_if false l m h = refl

kept-changed : (p : Attempt ℕ) (m : List ℕ) (f : ℕ → List ℕ) → ((a : ℕ) → length (f a) ≡ length m) → length (changed p m f).memory ≡ length m
kept-changed (done a) m f h = h a
kept-changed (fault reason) m f h = refl

sixteen : (p : Attempt ℕ) (m : List ℕ) → length (vector_load p m).lanes ≡ 16
unfolding lanes_at
sixteen (done a) m = tab-length 16 _
sixteen (fault reason) m = tab-length 16 _

pub lengths : Lengths
unfolding store store_lanes with_lanes load_lanes
lengths = record {
  of-store = λ op m base offset value. kept-changed (scalar_place (bytes_stored op) m base offset) m _ (λ a. kept-number (bytes_stored op) m a value);
  of-store-lanes = λ m base offset mask v. kept-changed (vector_place m base offset) m _ (λ a. kept-each 16 _ m (λ j l. kept_if (is_on mask j) _ l (kept-number 4 l (a + 4 * j) (lane v j))));
  of-load-lanes = λ m base offset. sixteen (vector_place m base offset) m;
}
