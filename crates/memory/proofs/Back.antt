-- A load after a store gives the value back.
use Prim.Native.Nat.{ℕ, zero, suc, ◌+◌, ◌*◌, ◌%◌, ◌^◌, ◌≤◌, ◌<◌}
use mathlib.Core.Bool.{Bool, true, false, cond}
use mathlib.Core.List.{List}
use mathlib.Core.Path.{◌≡◌, refl, ap, ◌∙◌}
use native.Mathlib.Nat.{mod-eq_of_lt, mod-lt}
use native.Mathlib.Omega.{arith}
use lib.Dec.{ltb}
use lib.ListN.{length}
use lib.Pow.{pow_pos}
use borrow.Author.Tests.{ltb-true, ltb-false}
use Rattle.vector.specs.Lanes.{each, lane, is_on}
use Rattle.vector.proofs.Filling.{tab-lane}
use Rattle.memory.specs.Attempt.{Attempt, done, fault, onward}
use Rattle.little_endian.specs.Numbers.{number_at, with_number}
use Rattle.memory.specs.Claims.{LoadAfterStore, LanesAfterStore}
use Rattle.memory.specs.Operation.{widened, scalar_place, vector_alignment, vector_place, changed, load, store, with_lanes, store_lanes, lanes_at, vector_load, load_lanes}
use Rattle.memory.specs.Place.{biased}
use Rattle.memory.specs.Types.{Load8, Load16, Load32, Load8u, Load16u}
use Rattle.little_endian.proofs.Numbers.{kept-number, other-number, back}
use Rattle.memory.proofs.Claimed.{kept-each, kept_if}
use Rattle.memory.proofs.Places.{within}

-- ---- scalars

module _ (size : ℕ) (m : List ℕ) (base offset v : ℕ) (f : ℕ → ℕ) where
  abbrev after : Attempt ℕ → List ℕ
  after p = (changed p m (λ a. with_number size m a v)).memory

  loaded : (p : Attempt ℕ) → scalar_place size m base offset ≡ p → (changed p m (λ a. with_number size m a v)).answer ≡ done tt
      → onward (scalar_place size (after p) base offset) (λ a. f (number_at size (after p) a)) ≡ done (f (v % 2 ^ (8 * size)))
  loaded (done a) e d = rw (kept-number size m a v, e, back size m a v (within size size (length m) (biased base offset) e))
  loaded (fault reason) e d = let z : ◌≡◌ {A = ℕ} 0 1 = cc in absurd (omega arith)

-- a number is cut once
cut_again : (n v : ℕ) → 0 < n → v % n % n ≡ v % n
cut_again n v h = mod-eq_of_lt (mod-lt v h)

pub load-after-store : LoadAfterStore
unfolding load store
load-after-store m base offset v = record {
  signed8 = λ d. loaded 1 m base offset v (widened Load8) _ refl d ∙ rw (cut_again (2 ^ 8) v (pow_pos 8));
  signed16 = λ d. loaded 2 m base offset v (widened Load16) _ refl d ∙ rw (cut_again (2 ^ 16) v (pow_pos 16));
  whole = λ h d. loaded 4 m base offset v (widened Load32) _ refl d ∙ ap done (mod-eq_of_lt h);
  unsigned8 = λ d. loaded 1 m base offset v (widened Load8u) _ refl d;
  unsigned16 = λ d. loaded 2 m base offset v (widened Load16u) _ refl d;
}

-- ---- lanes

module _ (m : List ℕ) (a mask : ℕ) (v : List ℕ) (room : a + 64 ≤ length m) where
  -- what is done for lane k, and the memory after the first n lanes
  abbrev lane_done : ℕ → List ℕ → List ℕ
  lane_done k l = cond (is_on mask k) (with_number 4 l (a + 4 * k) (lane v k)) l

  abbrev after-lanes : ℕ → List ℕ
  after-lanes n = each n lane_done m

  -- another lane stays,
  other-lane : (t : Bool) (l : List ℕ) (k j w : ℕ) → (j ≡ k → ⊥)
      → number_at 4 (cond t (with_number 4 l (a + 4 * k) w) l) (a + 4 * j) ≡ number_at 4 l (a + 4 * j)
  other-lane true l k j w h = other-number 4 l (a + 4 * k) w (a + 4 * j) (λ p q. h (omega arith))
  other-lane false l k j w h = refl

  -- so that before its turn a lane is as it was,
  before-turn : (n j : ℕ) → n ≤ j → number_at 4 (after-lanes n) (a + 4 * j) ≡ number_at 4 m (a + 4 * j)
  unfolding each
  before-turn zero j h = refl
  before-turn (suc n) j h = other-lane (is_on mask n) (after-lanes n) n j (lane v n) (λ e. omega arith) ∙ before-turn n j (omega arith)

  -- and is stored at its turn, if it is on
  own_lane : (t : Bool) (l : List ℕ) (j w : ℕ) → length l ≡ length m → j < 16 → w < 2 ^ 32
      → number_at 4 (cond t (with_number 4 l (a + 4 * j) w) l) (a + 4 * j) ≡ cond t w (number_at 4 l (a + 4 * j))
  own_lane true l j w e h b = back 4 l (a + 4 * j) w (omega arith) ∙ mod-eq_of_lt b
  own_lane false l j w e h b = refl

  kept-lanes : (n : ℕ) → length (after-lanes n) ≡ length m
  kept-lanes n = kept-each n lane_done m (λ j l. kept_if (is_on mask j) _ l (kept-number 4 l (a + 4 * j) (lane v j)))

  abbrev Stored : ℕ → List ℕ → Type 0
  Stored j l = number_at 4 l (a + 4 * j) ≡ cond (is_on mask j) (lane v j) (number_at 4 m (a + 4 * j))

  after_turn : (n j : ℕ) → j < n → j < 16 → lane v j < 2 ^ 32 → Stored j (after-lanes n)
  unfolding each
  after_turn zero j h g b = absurd (omega arith)
  after_turn (suc n) j h g b = go (ltb j n) refl (λ l. after_turn n j l g b)
    where
      go : (t : Bool) → ltb j n ≡ t → (j < n → Stored j (after-lanes n)) → Stored j (lane_done n (after-lanes n))
      go true e ih =
          let l : j < n = ltb-true j n e in
          other-lane (is_on mask n) (after-lanes n) n j (lane v n) (λ i. omega arith) ∙ ih l
      go false e ih =
          let i : j ≡ n = omega (arith, ltb-false j n e) in
          rw (← i) (own_lane (is_on mask j) (after-lanes j) j (lane v j) (kept-lanes j) g b)
          ∙ ap (cond (is_on mask j) (lane v j)) (before-turn j j (omega arith))

module _ (m : List ℕ) (base offset mask : ℕ) (v : List ℕ) (j : ℕ) (h : j < 16) (b : lane v j < 2 ^ 32) where
  abbrev stored : Attempt ℕ → List ℕ
  stored p = (changed p m (λ a. with_lanes m a mask v)).memory

  lane-at : (l : List ℕ) (a : ℕ) → lane (lanes_at l a) j ≡ number_at 4 l (a + 4 * j)
  unfolding lanes_at
  lane-at l a = tab-lane 16 j (λ k. number_at 4 l (a + 4 * k)) h

  vector_load-back : (p : Attempt ℕ) → vector_place m base offset ≡ p → (changed p m (λ a. with_lanes m a mask v)).answer ≡ done tt
      → lane (vector_load (vector_place (stored p) base offset) (stored p)).lanes j
      ≡ cond (is_on mask j) (lane v j) (lane (vector_load p m).lanes j)
  unfolding with_lanes
  vector_load-back (done a) e d =
      let r : a + 64 ≤ length m = within vector_alignment 64 (length m) (biased base offset) e in
      rw (kept-lanes m a mask v r 16, e, lane-at (with_lanes m a mask v) a, lane-at m a) (after_turn m a mask v r 16 j h h b)
  vector_load-back (fault reason) e d = let z : ◌≡◌ {A = ℕ} 0 1 = cc in absurd (omega arith)

pub lanes-after-store : LanesAfterStore
unfolding load_lanes store_lanes
lanes-after-store m base offset mask v j d h b = vector_load-back m base offset mask v j h b (vector_place m base offset) refl d
