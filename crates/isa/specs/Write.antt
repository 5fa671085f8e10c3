-- The word of an instruction (document 01, "The words").
use Rattle.std.specs.Prelude.{ℕ, Bool, true, false, ◌&&◌, List, [], ◌∷◌}
use Rattle.answer.specs.Answer.{Answer, given, refused, no_word}
use Rattle.word_layout.specs.Layout.{Part, pack, each_fits, layout_r, layout_i, layout_movei, layout_j, layout_c, layout_m, prefix_r, prefix_i, prefix_movei, prefix_j, prefix_c, prefix_m, truncated, fits_signed, sign_bit, immediate_i, offset_j, offset_m}
use Rattle.isa.specs.Number.{field_movei, fits_movei}
use Rattle.isa.specs.Rule.{allows_r, allows_i, allows_movei, allows_j, allows_c, allows_m}
use Rattle.isa.specs.Table.{row_r, row_i, row_movei, row_j, row_c, row_m}
use Rattle.isa.specs.Test.{all}
use Rattle.isa.specs.Types.{Operation, MoveiOp, JumpOp, ControlOp, MemoryOp, Instruction, R, I, Movei, J, C, M}

-- the word w, where there is one
unfoldable pub written : Bool → ℕ → Answer ℕ
written true w = given w
written false w = refused no_word

-- the word with these numbers in the layout's parts, where they have room and the instruction is allowed
abbrev pub encoded : Bool → List Part → List ℕ → Answer ℕ
encoded allowed layout numbers = written (all (allowed ∷ each_fits layout numbers)) (pack layout numbers)

-- The word of an instruction, by format. "Unnamed bits are 0."

unfoldable pub write_r : Operation → ℕ → ℕ → ℕ → ℕ → Answer ℕ
write_r op flags d a b = encoded (allows_r op flags d b) layout_r (prefix_r ∷ (row_r op).opcode ∷ d ∷ a ∷ b ∷ 0 ∷ 0 ∷ flags ∷ 0 ∷ [])

unfoldable pub write_i : Operation → ℕ → ℕ → ℕ → ℕ → Answer ℕ
write_i op flags d a immediate =
    encoded (allows_i op flags d && fits_signed (sign_bit immediate_i) immediate) layout_i
    (prefix_i ∷ (row_i op).opcode ∷ d ∷ a ∷ truncated (sign_bit immediate_i) immediate ∷ flags ∷ 0 ∷ [])

unfoldable pub write_movei : MoveiOp → ℕ → ℕ → ℕ → Answer ℕ
write_movei op flag d immediate =
    encoded (allows_movei flag d && fits_movei op immediate) layout_movei
    (prefix_movei ∷ (row_movei op).opcode ∷ d ∷ field_movei immediate ∷ flag ∷ 0 ∷ [])

unfoldable pub write_j : JumpOp → ℕ → ℕ → Answer ℕ
write_j op register offset =
    encoded (allows_j op register offset && fits_signed (sign_bit offset_j) offset) layout_j
    (prefix_j ∷ (row_j op).opcode ∷ register ∷ truncated (sign_bit offset_j) offset ∷ [])

unfoldable pub write_c : ControlOp → ℕ → ℕ → Answer ℕ
write_c op first second = encoded (allows_c op first second) layout_c (prefix_c ∷ (row_c op).opcode ∷ first ∷ second ∷ 0 ∷ [])

unfoldable pub write_m : MemoryOp → ℕ → ℕ → ℕ → Answer ℕ
write_m op register base offset =
    encoded (allows_m op register && fits_signed (sign_bit offset_m) offset) layout_m
    (prefix_m ∷ (row_m op).opcode ∷ register ∷ base ∷ truncated (sign_bit offset_m) offset ∷ 0 ∷ 0 ∷ [])

-- what an instruction is written as
unfoldable pub write : Instruction → Answer ℕ
write (R op flags d a b) = write_r op flags d a b
write (I op flags d a immediate) = write_i op flags d a immediate
write (Movei op flag d immediate) = write_movei op flag d immediate
write (J op register offset) = write_j op register offset
write (C op first second) = write_c op first second
write (M op register base offset) = write_m op register base offset
