-- What a word is read as, by its top byte and its low bits: one law a format.
use Rattle.std.proofs.Common.{◌≡◌, ℕ, ◌*◌, ◌%◌, ◌^◌, ◌<◌, true, not, eqb, refl, ◌∙◌, arith, ne_eqb}
use Rattle.answer.specs.Answer.{given}
use Rattle.isa.proofs.Answers.{accept, accept-one}
use Rattle.isa.proofs.Formats.{is-R, is-I, is-Movei, is-J, is-M}
use Rattle.isa.proofs.Tables.{finds-R, finds-Movei, finds-J, finds-M}
use Rattle.word_layout.specs.Layout.{bits, signed}
use Rattle.isa.specs.Number.{number_movei}
use Rattle.isa.specs.Read.{reads, read, read_r, as_r, read_i, as_i, read_movei, as_movei, read_j, as_j, read_m, as_m, listed}
use Rattle.isa.specs.Rule.{program_counter_register as no_destination, allows_r, allows_i, allows_j, allows_m}
use Rattle.isa.specs.Table.{row_r, row_movei, row_j, row_m}
use Rattle.machine.specs.State.{program_counter_register}
use Rattle.fast_path.specs.Action.{HasOpcode}
use Rattle.fast_path.specs.Types.{Operation, MoveiOp, JumpOp, MemoryOp, R, I, Movei, J, M}

-- a scalar may be written to every register but the last, which is the program counter: `isa` and `machine` have one number for it
pub free-register : (d : ℕ) → d < program_counter_register → not (eqb d no_destination) ≡ true
free-register d h = rw (ne_eqb d no_destination (λ e. omega arith))

module _ (w : ℕ) where
  pub flagged-R : (op : Operation) (flags : ℕ) → HasOpcode w 0x00 64 (row_r op).opcode → flags < 8 → w % 64 ≡ 2 * flags →
      allows_r op flags (bits w 23 18) (bits w 11 6) ≡ true → read w ≡ given (R op flags (bits w 23 18) (bits w 17 12) (bits w 11 6))
  unfolding read read_r as_r listed
  flagged-R op flags h few low allowed =
      let byte = h.byte in
      let small = h.listed in
      let format : bits w 31 30 ≡ 0b00 = omega arith in
      let opcode : bits w 29 24 ≡ (row_r op).opcode = omega arith in
      let bit5 : bits w 5 5 ≡ 0 = omega arith in
      let l : bits w 4 4 ≡ 0 = omega arith in
      let those : bits w 3 1 ≡ flags = omega arith in
      let bit0 : bits w 0 0 ≡ 0 = omega arith in
      is-R reads w format ∙ rw (opcode, finds-R op, l, bit5, those, bit0) (accept _ _ (refl, (refl, (allowed, tt))))

  pub flagged-I : (op : Operation) (flags : ℕ) → HasOpcode w 0x40 32 (row_r op).opcode → flags < 4 → w % 8 ≡ 2 * flags →
      allows_i op flags (bits w 23 18) ≡ true → read w ≡ given (I op flags (bits w 23 18) (bits w 17 12) (signed (2 ^ 8) (bits w 11 3)))
  unfolding read read_i as_i listed
  flagged-I op flags h few low allowed =
      let byte = h.byte in
      let small = h.listed in
      let format : bits w 31 29 ≡ 0b010 = omega arith in
      let opcode : bits w 28 24 ≡ (row_r op).opcode = omega arith in
      let those : bits w 2 1 ≡ flags = omega arith in
      let bit0 : bits w 0 0 ≡ 0 = omega arith in
      is-I reads w format ∙ rw (opcode, finds-R op, those, bit0) (accept _ _ (refl, (allowed, tt)))

  pub plain-Movei : (op : MoveiOp) → HasOpcode w 0x60 8 (row_movei op).opcode → w % 4 ≡ 0 →
      read w ≡ given (Movei op 0 (bits w 23 18) (number_movei op (bits w 17 2)))
  unfolding read read_movei as_movei listed
  plain-Movei op h low =
      let byte = h.byte in
      let small = h.listed in
      let format : bits w 31 27 ≡ 0b01100 = omega arith in
      let opcode : bits w 26 24 ≡ (row_movei op).opcode = omega arith in
      let flag : bits w 1 1 ≡ 0 = omega arith in
      let bit0 : bits w 0 0 ≡ 0 = omega arith in
      let allowed = free-register (bits w 23 18) h.free in
      is-Movei reads w format ∙ rw (opcode, finds-Movei op, flag, bit0) (accept _ _ (refl, (allowed, tt)))

  pub plain-J : (op : JumpOp) → HasOpcode w 0x70 8 (row_j op).opcode →
      allows_j op (bits w 23 18) (signed (2 ^ 17) (bits w 17 0)) ≡ true → read w ≡ given (J op (bits w 23 18) (signed (2 ^ 17) (bits w 17 0)))
  unfolding read read_j as_j listed
  plain-J op h allowed =
      let byte = h.byte in
      let small = h.listed in
      let format : bits w 31 27 ≡ 0b01110 = omega arith in
      let opcode : bits w 26 24 ≡ (row_j op).opcode = omega arith in
      is-J reads w format ∙ rw (opcode, finds-J op) (accept-one _ _ allowed)

  pub plain-M : (op : MemoryOp) → HasOpcode w 0x80 64 (row_m op).opcode → w % 8 ≡ 0 → allows_m op (bits w 23 18) ≡ true →
      read w ≡ given (M op (bits w 23 18) (bits w 17 12) (signed (2 ^ 8) (bits w 11 3)))
  unfolding read read_m as_m listed
  plain-M op h low allowed =
      let byte = h.byte in
      let small = h.listed in
      let format : bits w 31 30 ≡ 0b10 = omega arith in
      let opcode : bits w 29 24 ≡ (row_m op).opcode = omega arith in
      let bits21 : bits w 2 1 ≡ 0 = omega arith in
      let bit0 : bits w 0 0 ≡ 0 = omega arith in
      is-M reads w format ∙ rw (opcode, finds-M op, bits21, bit0) (accept _ _ (refl, (allowed, tt)))
