-- What a start that is not refused makes.
use Prim.Native.Nat.{ℕ, zero, suc, ◌*◌, ◌<◌, ◌≤◌}
use mathlib.Core.List.{List}
use mathlib.Core.Option.{Option, none, some}
use mathlib.Core.Path.{◌≡◌, refl, sym, ap, ◌∙◌}
use native.Mathlib.Decide.{ℕ_discrete}
use native.Mathlib.Omega.{arith}
use lib.ListN.{length, get_or, set, replicate, length-set, length-map, get_or-map}
use lib.Seq.{get_or-set_same, get_or-set_other}
use Rattle.answer.specs.Answer.{given, refused}
use Rattle.machine.proofs.Claims.{started}
use Rattle.thread_entry.specs.Entry.{zero_thread}
use Rattle.machine.specs.Machine.{turns_at, zeroed, start as start_record}
use Rattle.interpreter.specs.Claims.{Starts, StartsUncounted, StartRegisters}
use Rattle.answer.specs.Refusal.{refused_or}
use Rattle.interpreter.specs.Refusal.{start_number}
use Rattle.machine.specs.State.{scalar_index, lane_mask_register}
use Rattle.interpreter.specs.Types.{Thread}
use Rattle.interpreter.specs.Start.{Beginning, zeroes, with_masks, start}
use Rattle.interpreter.proofs.Refusals.{start-taken, start-accepted}

-- the table gives it no number
unrefused : (mask : ℕ) (regs : List ℕ) → (start mask regs).answer ≡ given tt → start_number mask (length regs) ≡ none
unfolding start
unrefused mask regs h = go (start_number mask (length regs)) h
  where
    go : (o : Option ℕ)
        → (refused_or {A = Beginning} o (λ n. record { answer = refused n; machine = zeroed; registers = regs })
        (record { answer = given tt; machine = start_record mask; registers = with_masks 8 (zeroes regs) })).answer ≡ given tt
        → o ≡ none
    go none e = refl
    go (some n) e = absurd (let z : ◌≡◌ {A = ℕ} 0 1 = cc in omega arith)

pub starts : Starts
starts mask regs h =
    let e = unrefused mask regs h in
    let k = start-taken mask (length regs) e in
    rw (← start-accepted mask regs e) (started mask k.low k.high)

-- Counts of turns.

zero-entries : (n t : ℕ) → (get_or (replicate n zero_thread) t zero_thread).turns ≡ 0
zero-entries zero t = refl
zero-entries (suc n) zero = refl
zero-entries (suc n) (suc t) = zero-entries n t

started-entries : (mask t : ℕ) → turns_at (start_record mask) t ≡ 0
unfolding start_record
started-entries mask t =
    sym (get_or-map (λ (e : Thread). e.turns) (start_record mask).threads t zero_thread)
    ∙ get_or-map (λ (e : Thread). e.turns) (replicate 8 zero_thread) t zero_thread
    ∙ zero-entries 8 t

pub starts-uncounted : StartsUncounted
unfolding start
starts-uncounted mask regs t = go (start_number mask (length regs))
  where
    go : (o : Option ℕ)
        → turns_at (refused_or {A = Beginning} o (λ n. record { answer = refused n; machine = zeroed; registers = regs })
        (record { answer = given tt; machine = start_record mask; registers = with_masks 8 (zeroes regs) })).machine t ≡ 0
    go none = started-entries mask t
    go (some n) = zero-entries 8 t

-- The register file.

module _ (regs : List ℕ) where
  masks-size : (n : ℕ) → length (with_masks n regs) ≡ length regs
  unfolding with_masks
  masks-size zero = refl
  masks-size (suc n) = length-set (with_masks n regs) (scalar_index n lane_mask_register) 0xFFFF ∙ masks-size n

  masks-at : (n t : ℕ) → t < n → 64 * n ≤ length regs → get_or (with_masks n regs) (scalar_index t lane_mask_register) 0 ≡ 0xFFFF
  unfolding with_masks
  masks-at zero t l h = absurd (omega arith)
  masks-at (suc n) t l h = go (ℕ_discrete t n) (λ k. masks-at n t k (omega arith))
    where
      go : Dec (t ≡ n) → (t < n → get_or (with_masks n regs) (scalar_index t lane_mask_register) 0 ≡ 0xFFFF)
          → get_or (set (with_masks n regs) (scalar_index n lane_mask_register) 0xFFFF) (scalar_index t lane_mask_register) 0 ≡ 0xFFFF
      go (yes e) rest = rw e (get_or-set_same (with_masks n regs) (scalar_index n lane_mask_register) 0xFFFF 0 (omega (arith, masks-size n)))
      go (no e) rest =
          get_or-set_other (with_masks n regs) (scalar_index n lane_mask_register) (scalar_index t lane_mask_register) 0xFFFF 0 (λ f. e (omega arith)) ∙ rest (omega (arith, e))

  masks-other : (n i : ℕ) → ((t : ℕ) → t < n → i ≡ scalar_index t lane_mask_register → ⊥) → get_or (with_masks n regs) i 0 ≡ get_or regs i 0
  unfolding with_masks
  masks-other zero i h = refl
  masks-other (suc n) i h =
      get_or-set_other (with_masks n regs) (scalar_index n lane_mask_register) i 0xFFFF 0 (h n (omega arith)) ∙ masks-other n i (λ t l. h t (omega arith))

pub start-rooms : StartRegisters
start-rooms mask regs h =
    let e = unrefused mask regs h in
    let k = start-taken mask (length regs) e in
    let r = zeroes regs in
    let size : length r ≡ 8704 = length-map regs (λ word. 0) ∙ k.registers in
    let f : (start mask regs).registers ≡ with_masks 8 r = sym (ap (λ (x : Beginning). x.registers) (start-accepted mask regs e)) in
    record {
      size = ap length f ∙ (masks-size r 8 ∙ size);
      masks = λ t l. ap (λ x. get_or x (scalar_index t lane_mask_register) 0) f ∙ masks-at r 8 t l (omega arith);
      zeros = λ i g. ap (λ x. get_or x i 0) f ∙ (masks-other r 8 i g ∙ get_or-map (λ word. 0) regs i 0);
    }
