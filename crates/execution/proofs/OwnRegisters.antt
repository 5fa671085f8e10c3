-- What writes a thread's registers leaves every other thread's, and changes no length.
use Rattle.std.proofs.Common.{◌≡◌, ℕ, zero, suc, ◌+◌, ◌*◌, ◌<◌, ◌≤◌, Bool, true, false, cond, ◌⊎◌, List, length, get_or, set, sym, refl, ◌∙◌, subst, inl, inr, arith, length-set, get_or-set_other}
use Rattle.bits.specs.Bit.{is_set}
use Rattle.machine.specs.State.{scalar_index, lane_index}
use Rattle.vector.specs.Lanes.{each, lane, blended}
use Rattle.execution.specs.Claims.{SameRegisters}
use Rattle.execution.specs.Immediate.{move_immediate}
use Rattle.execution.specs.Operation.{binary_into, unary_into, compare_into, shuffle_into, get_lane_into, operate, operate_r, operate_i}
use Rattle.execution.specs.Registers.{vector, with_scalar, with_vector, lane_mask, with_lanes_on}
use Rattle.execution.specs.Types.{Source, Operation, Binary, Unary, Compare, Shuffle, GetLane, MoveiOp}

-- place k of the register file is one of thread t's
abbrev pub PlaceOf : ℕ → ℕ → Type 0
PlaceOf t k = ((64 * t ≤ k) × (k < 64 * t + 64)) ⊎ ((512 + 1024 * t ≤ k) × (k < 1536 + 1024 * t))

scalar-place : (t i : ℕ) → i < 64 → PlaceOf t (scalar_index t i)
scalar-place t i l = inl (omega arith, omega arith)

lane_place : (t i j : ℕ) → i < 64 → j < 16 → PlaceOf t (lane_index t i j)
lane_place t i j l k = inr (omega arith, omega arith)

-- no place is two threads'
apart : (t u k : ℕ) → t < 8 → u < 8 → (u ≡ t → ⊥) → PlaceOf u k → PlaceOf t k → ⊥
apart t u k a b n (inl x) (inl y) = n (omega arith)
apart t u k a b n (inl x) (inr y) = omega arith
apart t u k a b n (inr x) (inl y) = omega arith
apart t u k a b n (inr x) (inr y) = n (omega arith)

-- regs became x, with none but thread t's registers written
pub record Own (t : ℕ) (regs x : List ℕ) : Type 0 where
  pub size : length x ≡ length regs
  pub elsewhere : (k : ℕ) → (PlaceOf t k → ⊥) → get_or x k 0 ≡ get_or regs k 0

pub own-none : (t : ℕ) (regs : List ℕ) → Own t regs regs
own-none t regs = record { size = refl; elsewhere = λ k n. refl }

pub own-then : {t : ℕ} {regs x y : List ℕ} → Own t regs x → Own t x y → Own t regs y
own-then a b = record { size = b.size ∙ a.size; elsewhere = λ k n. b.elsewhere k n ∙ a.elsewhere k n }

own-set : (t k : ℕ) (regs : List ℕ) (x : ℕ) → PlaceOf t k → Own t regs (set regs k x)
own-set t k regs x p =
    record { size = length-set regs k x; elsewhere = λ j n. get_or-set_other regs k j x 0 (λ e. n (subst (PlaceOf t) (sym e) p)) }

-- so every other thread has its registers
pub own-others : (t u : ℕ) (regs x : List ℕ) → t < 8 → u < 8 → (u ≡ t → ⊥) → Own t regs x → SameRegisters u regs x
own-others t u regs x a b n o =
    record {
      scalars = λ i l. o.elsewhere (scalar_index u i) (apart t u (scalar_index u i) a b n (scalar-place u i l));
      lanes = λ i j l k. o.elsewhere (lane_index u i j) (apart t u (lane_index u i j) a b n (lane_place u i j l k));
    }

module _ (t : ℕ) (regs : List ℕ) where
  pub own-scalar : (i x : ℕ) → i < 64 → Own t regs (with_scalar regs t i x)
  own-scalar i x l = own-set t (scalar_index t i) regs x (scalar-place t i l)

  own-each : (i : ℕ) (v : List ℕ) → i < 64 → (n : ℕ) → n ≤ 16 → Own t regs (each n (λ j l. set l (lane_index t i j) (lane v j)) regs)
  unfolding each
  own-each i v l zero k = own-none t regs
  own-each i v l (suc n) k =
      own-then (own-each i v l n (omega arith)) (own-set t (lane_index t i n) _ (lane v n) (lane_place t i n l (omega arith)))

  pub own-lanes : (i : ℕ) (v : List ℕ) → i < 64 → Own t regs (with_lanes_on regs t i v)
  unfolding with_lanes_on with_vector
  own-lanes i v l = own-each i (blended (lane_mask regs t) v (vector regs t i)) l 16 (omega arith)

  -- whichever is written
  own-written : (flag : Bool) (d x : ℕ) (v : List ℕ) → d < 64 → Own t regs (cond flag (with_lanes_on regs t d v) (with_scalar regs t d x))
  own-written true d x v l = own-lanes d v l
  own-written false d x v l = own-scalar d x l

  own-operate : (op : Operation) (flag : Bool) (d : ℕ) (a b : Source) → d < 64 → Own t regs (operate regs t op flag d a b)
  unfolding binary_into unary_into compare_into shuffle_into get_lane_into
  own-operate (Binary op) flag d a b l = own-written flag d _ _ l
  own-operate (Unary op) flag d a b l = own-written flag d _ _ l
  own-operate (Compare op) flag d a b l = own-scalar d _ l
  own-operate Shuffle flag d a b l = own-lanes d _ l
  own-operate GetLane flag d a b l = own-scalar d _ l

  pub own-R : (op : Operation) (flags d a b : ℕ) → d < 64 → Own t regs (operate_r regs t op flags d a b)
  unfolding operate_r
  own-R op flags d a b l = own-operate op (is_set flags 2) d _ _ l

  pub own-I : (op : Operation) (flags d a n : ℕ) → d < 64 → Own t regs (operate_i regs t op flags d a n)
  unfolding operate_i
  own-I op flags d a n l = own-operate op (is_set flags 1) d _ _ l

  pub own-Movei : (op : MoveiOp) (flag : Bool) (d n : ℕ) → d < 64 → Own t regs (move_immediate regs t op flag d n)
  unfolding move_immediate
  own-Movei op flag d n l = own-written flag d _ _ l
