-- Words on vectors: what every lane on comes to, and what such a word does, one law a family.
use Rattle.std.proofs.Common.{◌≡◌, ℕ, zero, suc, ◌+◌, ◌-◌, ◌*◌, ◌/◌, ◌%◌, ◌^◌, ◌<◌, Bool, true, false, cond, ltb, List, set, sym, refl, ap, ◌∙◌, mod-lt, pow-suc, one-add, arith, pow_pos, ltb-false, ltb-true, eq-eqb, eqb-true, Ok}
use lib.Pow.{mod-pow-add}
use Rattle.bits.specs.Bit.{is_set}
use Rattle.execution.specs.Access.{load_lanes_into, store_lanes_from}
use Rattle.execution.specs.Effect.{Stays, context, executed, advanced}
use Rattle.execution.specs.Issue.{execute_word}
use Rattle.execution.specs.Operation.{binary_into, compare_into, operate_r, operate_i}
use Rattle.execution.specs.Registers.{scalar, vector, lane_mask, with_vector, with_lanes_on, with_program_counter}
use Rattle.isa.proofs.Both.{and_both}
use Rattle.isa.specs.Table.{row_m}
use Rattle.little_endian.specs.Numbers.{with_number}
use Rattle.machine.specs.State.{lane_index, program_counter_register}
use Rattle.memory.specs.Attempt.{Attempt, done, fault}
use Rattle.memory.specs.Operation.{load_lanes, store_lanes, with_lanes, vector_place, changed, store_result}
use Rattle.vector.proofs.Filling.{tab-lane}
use Rattle.vector.specs.Lanes.{each, lane, is_on, blended, splatted}
use Rattle.word_layout.specs.Layout.{bits}
use Rattle.fast_path.proofs.Families.{has-I, immediate, accesses, trap-changes}
use Rattle.fast_path.proofs.Words.{free-register, flagged-R, flagged-I}
use Rattle.fast_path.specs.Action.{HasOpcode, Tried}
use Rattle.fast_path.specs.Lanes.{all_on, LeavesIn, Combines, ComparesLanes}
use Rattle.fast_path.specs.Types.{Binary, Compare, LoadVector, StoreVector}

-- ---- every lane is on

digit-one : (d r p : ℕ) → d < 2 → r < p → d * p + r ≡ 2 * p - 1 → (d ≡ 1) × (r ≡ p - 1)
digit-one zero r p h l e = (absurd (omega arith), absurd (omega arith))
digit-one (suc zero) r p h l e = (refl, omega arith)
digit-one (suc (suc d)) r p h l e = absurd (let z : suc (suc d) < 2 = h in omega arith)

-- a number whose low n bits are all 1
ones_below : (n mask : ℕ) → mask % 2 ^ suc n ≡ 2 ^ suc n - 1 → (mask / 2 ^ n % 2 ≡ 1) × (mask % 2 ^ n ≡ 2 ^ n - 1)
ones_below n mask h =
    digit-one (mask / 2 ^ n % 2) (mask % 2 ^ n) (2 ^ n) (omega arith) (mod-lt mask (pow_pos n))
    (sym (ap (λ (k : ℕ). mask % 2 ^ k) (sym (one-add n)) ∙ mod-pow-add mask 1 n) ∙ h ∙ omega (arith, pow-suc 2 n))

ones : (n mask : ℕ) → mask % 2 ^ n ≡ 2 ^ n - 1 → (j : ℕ) → j < n → is_set mask j ≡ true
ones zero mask h j l = absurd (omega arith)
ones (suc n) mask h j l = go (ltb j n) refl (ones n mask (ones_below n mask h).1 j)
  where
    go : (b : Bool) → ltb j n ≡ b → (j < n → is_set mask j ≡ true) → is_set mask j ≡ true
    go true e below = below (ltb-true j n e)
    go false e below =
        let i : j ≡ n = omega (arith, ltb-false j n e) in
        rw i (eq-eqb (mask / 2 ^ n % 2) 1 (ones_below n mask h).0)

pub all_lanes : (regs : List ℕ) (t : ℕ) → all_on regs t ≡ true → (j : ℕ) → j < 16 → is_on (lane_mask regs t) j ≡ true
all_lanes regs t h j l = ones 16 (lane_mask regs t) (eqb-true (lane_mask regs t % 2 ^ 16) (2 ^ 16 - 1) h) j l

same-steps : (n : ℕ) (g h : ℕ → List ℕ → List ℕ) (m : List ℕ) → ((j : ℕ) (l : List ℕ) → j < n → g j l ≡ h j l) → each n g m ≡ each n h m
unfolding each
same-steps zero g h m e = refl
same-steps (suc n) g h m e = e n (each n g m) (omega arith) ∙ ap (h n) (same-steps n g h m (λ j l k. e j l (omega arith)))

-- a destination then gets every lane,
pub puts-all : (regs : List ℕ) (t i : ℕ) (v : List ℕ) → all_on regs t ≡ true → with_vector regs t i v ≡ with_lanes_on regs t i v
unfolding with_vector with_lanes_on blended
puts-all regs t i v h =
    same-steps 16 _ _ regs
    (λ j l k.
    ap (set l (lane_index t i j))
    (sym
    (tab-lane 16 j _ k ∙ ap (λ (b : Bool). cond b (lane v j) (lane (vector regs t i) j)) (all_lanes regs t h j k))))

-- and memory too
stores_same : (place : Attempt ℕ) (m : List ℕ) (f g : ℕ → List ℕ) → ((a : ℕ) → f a ≡ g a) → changed place m f ≡ changed place m g
stores_same (done a) m f g e = ap (λ (l : List ℕ). record { answer = done tt; memory = l }) (e a)
stores_same (fault reason) m f g e = refl

pub stores-all : (regs : List ℕ) (t : ℕ) (m : List ℕ) (base offset : ℕ) (v : List ℕ) → all_on regs t ≡ true →
    store_lanes m base offset (2 ^ 16 - 1) v ≡ store_lanes m base offset (lane_mask regs t) v
unfolding store_lanes with_lanes
stores-all regs t m base offset v h =
    stores_same (vector_place m base offset) m _ _
    (λ a.
    same-steps 16 _ _ m
    (λ j l k.
    ap (λ (b : Bool). cond b (with_number 4 l (a + 4 * j) (lane v j)) l)
    (ones 16 (2 ^ 16 - 1) refl j k ∙ sym (all_lanes regs t h j k))))

-- ---- what the words do

module _ (t : ℕ) (regs : List ℕ) (w : ℕ) (free : bits w 23 18 < program_counter_register) where
  pub combines-vectors : w / 2 ^ 24 < 64 → w % 2 ^ 6 ≡ 0b1110 →
      Combines t w regs (w / 2 ^ 24) (vector regs t (bits w 17 12)) (vector regs t (bits w 11 6))
  unfolding execute_word operate_r binary_into
  combines-vectors h low op e memory pc enabled words turns =
      rw (flagged-R w (Binary op) 0b111 (record { byte = omega (arith, e); listed = rw e h; free = free }) (omega arith) low refl)

  pub combines-number : w / 2 ^ 24 < 64 → w % 2 ^ 6 ≡ 0b1100 →
      Combines t w regs (w / 2 ^ 24) (vector regs t (bits w 17 12)) (splatted (scalar regs t (bits w 11 6)))
  unfolding execute_word operate_r binary_into
  combines-number h low op e memory pc enabled words turns =
      rw (flagged-R w (Binary op) 0b110 (record { byte = omega (arith, e); listed = rw e h; free = free }) (omega arith) low refl)

  pub compares-vectors : w / 2 ^ 24 < 64 → w % 2 ^ 6 ≡ 0b0110 →
      ComparesLanes t w regs (w / 2 ^ 24) (vector regs t (bits w 17 12)) (vector regs t (bits w 11 6))
  unfolding execute_word operate_r compare_into
  compares-vectors h low op e memory pc enabled words turns =
      rw (flagged-R w (Compare op) 0b011 (record { byte = omega (arith, e); listed = rw e h; free = free }) (omega arith) low (and_both _ _ (free-register (bits w 23 18) free) refl))

  pub combines-immediate : (opcode : ℕ) → w / 2 ^ 24 ≡ 0x40 + opcode → opcode < 32 → w % 2 ^ 3 ≡ 0b110 →
      Combines t w regs opcode (vector regs t (bits w 17 12)) (splatted (immediate t regs w))
  unfolding execute_word operate_i binary_into
  combines-immediate opcode b h low op e memory pc enabled words turns =
      rw (flagged-I w (Binary op) 0b11 (record { byte = rw e b; listed = rw e h; free = free }) (omega arith) low (has-I (Binary op) 0b11 (bits w 23 18) (rw e h) refl))

-- a load that is done, and a store
module _ (t : ℕ) (regs : List ℕ) (w : ℕ) (low : w % 8 ≡ 0) where
  pub loads-lanes : HasOpcode w 0x80 64 (row_m LoadVector).opcode → (memory v : List ℕ) →
      record { answer = done tt; lanes = v } ≡ load_lanes memory (scalar regs t (bits w 17 12)) (immediate t regs w) →
      LeavesIn t w regs memory (with_lanes_on regs t (bits w 23 18) v)
  unfolding load_lanes_into
  loads-lanes h memory v e pc enabled words turns =
      accesses t regs w LoadVector h low refl memory pc enabled words turns ∙ rw (← e)

  pub stores-lanes : HasOpcode w 0x80 64 (row_m StoreVector).opcode → all_on regs t ≡ true → (memory stored : List ℕ) →
      store_result (Ok tt) stored ≡ store_lanes memory (scalar regs t (bits w 17 12)) (immediate t regs w) (2 ^ 16 - 1) (vector regs t (bits w 23 18)) →
      (pc enabled words turns : ℕ) →
      executed Stays (advanced (context t pc enabled words turns) regs) stored ≡ execute_word (context t pc enabled words turns) regs memory w
  unfolding store_lanes_from
  stores-lanes h on memory stored e pc enabled words turns =
      sym (accesses t regs w StoreVector h low refl memory pc enabled words turns ∙
      rw (← e ∙ stores-all regs t memory (scalar regs t (bits w 17 12)) (immediate t regs w) (vector regs t (bits w 23 18)) on))

pub store-lanes-traps : (memory : List ℕ) (base offset mask : ℕ) (v : List ℕ) (reason : ℕ) (stored : List ℕ) →
    record { answer = fault reason; memory = stored } ≡ store_lanes memory base offset mask v → stored ≡ memory
unfolding store_lanes
store-lanes-traps memory base offset mask v reason stored e =
    trap-changes (vector_place memory base offset) memory (λ a. with_lanes memory a mask v) reason stored e

-- registers that a word leaves, with its program counter moved on
pub tries_left : (t w : ℕ) (regs memory left : List ℕ) → LeavesIn t w regs memory left → (pc enabled words turns : ℕ) (after : List ℕ) →
    after ≡ with_program_counter left t (pc + 4) → Tried (context t pc enabled words turns) w regs memory true after memory
tries_left t w regs memory left h pc enabled words turns after e = rw e (sym (h pc enabled words turns))
