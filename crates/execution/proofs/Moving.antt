-- An issue of movei gives its register the immediate with its sign extended, whatever the register held.
use Rattle.std.proofs.Common.{◌≡◌, ℕ, zero, suc, ◌+◌, ◌/◌, ◌%◌, ◌^◌, ◌<◌, ◌≤◌, Bool, true, false, cond, not, eqb, ltb, List, length, get_or, set, refl, ap, ◌∙◌, arith, length-set, get_or-set_other, get_or-set_same, ltb-false, ltb-true, ne_eqb, eqb-true, le-leb}
use borrow.Author.Tests.{eqb-false, lt-leb}
use Rattle.answer.specs.Answer.{given}
use Rattle.answer.specs.Refusal.{register_words}
use Rattle.bits.specs.Bit.{is_set}
use Rattle.isa.proofs.Answers.{accept}
use Rattle.isa.proofs.Formats.{is-Movei}
use Rattle.isa.proofs.Tables.{finds-Movei}
use Rattle.word_layout.specs.Layout.{bits, signed}
use Rattle.isa.specs.Read.{reads, read, read_movei, as_movei, listed}
use Rattle.isa.specs.Rule.{destination}
use Rattle.machine.specs.State.{State, scalar_index, lane_index}
use Rattle.memory.proofs.Claimed.{kept-each}
use Rattle.vector.proofs.Filling.{tab-lane}
use Rattle.vector.specs.Lanes.{each, lane, is_on, blended}
use Rattle.execution.specs.Claims.{NextIsMovei, sign_extended, MoveiExtends}
use Rattle.execution.specs.Immediate.{replaced_lanes, move_immediate}
use Rattle.execution.specs.Issue.{execute_word, perform}
use Rattle.execution.specs.Registers.{scalar, vector, with_scalar, with_vector, lane_mask, program_counter, with_program_counter, with_lanes_on}
use Rattle.execution.specs.Types.{Movei, Whole}

-- the number that the word is read with
number : ℕ → ℕ
number w = signed (2 ^ 15) (bits w 17 2)

extends : (w : ℕ) → number w ≡ sign_extended w
unfolding number signed
extends w = by (is_set w 17) refl
  where
    by : (t : Bool) → is_set w 17 ≡ t → number w ≡ cond t (0xFFFF0000 + bits w 17 2) (bits w 17 2)
    by true e =
        let b : w / 2 ^ 17 % 2 ≡ 1 = eqb-true _ _ e in
        let l : 32768 ≤ bits w 17 2 = omega arith in
        rw (le-leb 32768 (bits w 17 2) l) (omega arith)
    by false e =
        let b : w / 2 ^ 17 % 2 ≡ 1 → ⊥ = eqb-false _ _ e in
        let l : bits w 17 2 < 32768 = omega arith in
        rw (lt-leb 32768 (bits w 17 2) l)

-- the upper bits of a MOVEI word
format-of : (w o : ℕ) → w / 2 ^ 24 ≡ 0x60 + o → o < 8 → bits w 31 27 ≡ 0b01100
format-of w o byte small = omega arith

opcode-of : (w o : ℕ) → w / 2 ^ 24 ≡ 0x60 + o → o < 8 → bits w 26 24 ≡ o
opcode-of w o byte small = omega arith

-- what a word of movei is read as
reads-movei : (w flag : ℕ) → w / 2 ^ 24 ≡ 0x62 → bits w 0 0 ≡ 0 → bits w 1 1 ≡ flag → destination (eqb flag 1) (bits w 23 18) ≡ true →
    read w ≡ given (Movei Whole flag (bits w 23 18) (number w))
unfolding read read_movei as_movei listed number
reads-movei w flag byte low f allowed =
    is-Movei reads w (format-of w 2 byte (omega arith)) ∙ rw (opcode-of w 2 byte (omega arith), finds-Movei Whole, f, low) (accept _ _ (refl, (allowed, tt)))

-- the registers after it
module _ (p : List ℕ) (s : State) (t turns w : ℕ) (h : NextIsMovei p s t w) (flag d n : ℕ) where
  after : read w ≡ given (Movei Whole flag d n) →
      (perform p s t turns).registers ≡ with_program_counter (move_immediate s.registers t Whole (eqb flag 1) d n) t (program_counter s.registers t + 4)
  unfolding perform execute_word
  after e = rw (h.in-program, h.word, e)

module _ (regs : List ℕ) (t : ℕ) (size : length regs ≡ register_words) (thread : t < 8) where
  -- a scalar that was written, and s63 after it
  scalar-after : (d n pc : ℕ) → d < 63 → scalar (with_program_counter (with_scalar regs t d n) t (pc + 4)) t d ≡ n
  scalar-after d n pc l =
      get_or-set_other (with_scalar regs t d n) (scalar_index t 63) (scalar_index t d) (pc + 4) 0 (λ e. omega arith)
      ∙ get_or-set_same regs (scalar_index t d) n 0 (rw size (omega arith))

  -- the lanes that were written one after the other
  each_lane : (d : ℕ) (v : List ℕ) → d < 64 → (n : ℕ) → n ≤ 16 → (j : ℕ) → j < n →
      get_or (each n (λ k l. set l (lane_index t d k) (lane v k)) regs) (lane_index t d j) 0 ≡ lane v j
  unfolding each
  each_lane d v l zero k j m = absurd (omega arith)
  each_lane d v l (suc n) k j m = by (ltb j n) refl (each_lane d v l n (omega arith) j)
    where
      before : List ℕ
      before = each n (λ k l. set l (lane_index t d k) (lane v k)) regs

      kept : length before ≡ register_words
      kept = kept-each n (λ k l. set l (lane_index t d k) (lane v k)) regs (λ k l. length-set l (lane_index t d k) (lane v k)) ∙ size

      by : (b : Bool) → ltb j n ≡ b → (j < n → get_or before (lane_index t d j) 0 ≡ lane v j) →
          get_or (set before (lane_index t d n) (lane v n)) (lane_index t d j) 0 ≡ lane v j
      by true e ih =
          let x = ltb-true j n e in
          get_or-set_other before (lane_index t d n) (lane_index t d j) (lane v n) 0 (λ q. omega arith) ∙ ih x
      by false e ih =
          let x = ltb-false j n e in
          let y : j ≡ n = omega arith in
          rw y (get_or-set_same before (lane_index t d n) (lane v n) 0 (rw kept (omega arith)))

  lane-after : (d n pc j : ℕ) → d < 64 → j < 16 → is_on (lane_mask regs t) j ≡ true →
      get_or (with_program_counter (with_lanes_on regs t d (replaced_lanes Whole (vector regs t d) n)) t (pc + 4)) (lane_index t d j) 0 ≡ n
  unfolding with_lanes_on with_vector blended replaced_lanes
  lane-after d n pc j l m on =
      let old = vector regs t d in
      let new = replaced_lanes Whole old n in
      get_or-set_other (with_lanes_on regs t d new) (scalar_index t 63) (lane_index t d j) (pc + 4) 0 (λ e. omega arith)
      ∙ each_lane d (blended (lane_mask regs t) new old) l 16 (omega arith) j m
      ∙ tab-lane 16 j (λ k. cond (is_on (lane_mask regs t) k) (lane new k) (lane old k)) m
      ∙ rw on (tab-lane 16 j (λ k. n) m)

pub movei-extends : MoveiExtends
unfolding move_immediate
movei-extends = record {
  scalars = λ p s t turns w h f l.
      let free : not (eqb (bits w 23 18) 63) ≡ true = rw (ne_eqb (bits w 23 18) 63 (λ e. omega arith)) in
      ap (λ r. scalar r t (bits w 23 18)) (after p s t turns w h 0 (bits w 23 18) (number w) (reads-movei w 0 h.format-and-opcode h.bit0 f free))
      ∙ scalar-after s.registers t h.regs h.thread (bits w 23 18) (number w) (program_counter s.registers t) l
      ∙ extends w;
  lanes = λ p s t turns w j h f m on.
      ap (λ r. get_or r (lane_index t (bits w 23 18) j) 0) (after p s t turns w h 1 (bits w 23 18) (number w) (reads-movei w 1 h.format-and-opcode h.bit0 f refl))
      ∙ lane-after s.registers t h.regs h.thread (bits w 23 18) (number w) (program_counter s.registers t) j (omega arith) m on
      ∙ extends w;
}
