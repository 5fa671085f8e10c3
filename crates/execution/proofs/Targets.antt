-- The target of a jump: a sum that wraps finds the same word as the signed sum, or none where that has none.
use Rattle.std.proofs.Common.{◌≡◌, ℕ, ◌+◌, ◌-◌, ◌*◌, ◌%◌, ◌^◌, ◌<◌, ◌≤◌, Bool, true, false, cond, ◌&&◌, eqb, ltb, leb, List, refl, arith, ltb-true, le-ltb, leb-false, leb-true}
use Rattle.isa.proofs.Both.{and_right}
use Rattle.execution.specs.Effect.{Step, trapped}
use Rattle.execution.specs.Jump.{in_program, jump_to, jump_by}
use Rattle.execution.specs.Types.{Context}

-- an address with a word is before the program's end
pub before-end : (words address : ℕ) → in_program words address ≡ true → address < 4 * words
before-end words address h = ltb-true _ _ (and_right (eqb (address % 4) 0) _ h)

module _ (c : Context) (regs linked : List ℕ) where
  -- past the program's end there is no word
  past : (address : ℕ) → 4 * c.words ≤ address → jump_to c regs linked address ≡ trapped 4 regs
  unfolding jump_to
  past address h = none (eqb (address % 4) 0) (ltb address (4 * c.words)) _ (le-ltb _ _ h)
    where
      none : (b d : Bool) (s : Step) → d ≡ false → cond (b && d) s (trapped 4 regs) ≡ trapped 4 regs
      none true d s e = rw e
      none false d s e = refl

  module _ (offset : ℕ) (w : c.words ≤ 16384) (p : c.pc < 65536) (o : offset < 2 ^ 32) where
    wraps : (negative below : Bool) → leb (2 ^ 31) offset ≡ negative → leb (2 ^ 32) (c.pc + cond negative offset (2 ^ 32 + offset)) ≡ below →
        jump_to c regs linked ((c.pc + offset) % 2 ^ 32) ≡
        cond below (jump_to c regs linked (c.pc + cond negative offset (2 ^ 32 + offset) - 2 ^ 32)) (trapped 4 regs)
    wraps true true h k =
        let l : 2 ^ 32 ≤ c.pc + offset = leb-true (2 ^ 32) (c.pc + offset) k in
        let e : (c.pc + offset) % 2 ^ 32 ≡ c.pc + offset - 2 ^ 32 = omega arith in
        rw e
    wraps true false h k =
        let l = leb-true (2 ^ 31) offset h in
        let m = leb-false (2 ^ 32) (c.pc + offset) k in
        let e : (c.pc + offset) % 2 ^ 32 ≡ c.pc + offset = omega arith in
        rw e (past (c.pc + offset) (omega arith))
    wraps false true h k =
        let l = leb-false (2 ^ 31) offset h in
        let e : (c.pc + offset) % 2 ^ 32 ≡ c.pc + (2 ^ 32 + offset) - 2 ^ 32 = omega arith in
        rw e
    wraps false false h k = let m = leb-false (2 ^ 32) (c.pc + (2 ^ 32 + offset)) k in absurd (omega arith)

    pub wrapped : jump_to c regs linked ((c.pc + offset) % 2 ^ 32) ≡ jump_by c regs linked offset
    unfolding jump_by
    wrapped = wraps (leb (2 ^ 31) offset) (leb (2 ^ 32) (c.pc + cond (leb (2 ^ 31) offset) offset (2 ^ 32 + offset))) refl refl
