-- The six numbers of a word, and the word that has six numbers in its fields (document 01, "The words").
use Rattle.std.specs.Prelude.{ℕ, ◌%◌, ◌^◌, Bool, ◌&&◌, cond, List, [], ◌∷◌, eqb}
use Rattle.std.proofs.Math.Option.{Option, none, some}
use Rattle.word_layout.specs.Layout.{Part, width, field, signed_field, pack, first_register, second_register, third_register, opcode_r, vector_flags_r, layout_r, prefix_r, opcode_i, immediate_i, vector_flags_i, layout_i, prefix_i, opcode_movei, immediate_movei, vector_flag, layout_movei, prefix_movei, opcode_j, offset_j, layout_j, prefix_j, opcode_c, layout_c, prefix_c, opcode_m, offset_m, layout_m, prefix_m}
use Rattle.isa.specs.Number.{number_movei}
use Rattle.isa.specs.Read.{Formats, by_format}
use Rattle.isa.specs.Table.{operation_at, table_movei}
use Rattle.fields.specs.Types.{Numbers, MoveiOp}

-- the format, the opcode, the vector flags, and the fields in the order of the word
abbrev pub numbers : ℕ → ℕ → ℕ → ℕ → ℕ → ℕ → Numbers
numbers format opcode flags first second third =
    record { format = format; opcode = opcode; flags = flags; first = first; second = second; third = third }

unfoldable pub same_numbers : Numbers → Numbers → Bool
same_numbers a b =
    eqb a.format b.format && eqb a.opcode b.opcode && eqb a.flags b.flags
    && eqb a.first b.first && eqb a.second b.second && eqb a.third b.third

-- A word's numbers, by format: 0 R, 1 I, 2 MOVEI, 3 J, 4 C, 5 M. Where a format has no such field, the number is 0.

-- "R: .. opcode 29-24, d 23-18, a 17-12, b 11-6, .. vector flags bit 3 (d), 2 (a), 1 (b)."
abbrev pub unpack_r : ℕ → Numbers
unpack_r w = numbers 0 (field w opcode_r) (field w vector_flags_r) (field w first_register) (field w second_register) (field w third_register)

-- "I: .. opcode 28-24, d 23-18, a 17-12, signed immediate 11-3, flags bit 2 (d), 1 (a)."
abbrev pub unpack_i : ℕ → Numbers
unpack_i w = numbers 1 (field w opcode_i) (field w vector_flags_i) (field w first_register) (field w second_register) (signed_field w immediate_i)

-- MOVEI's number goes by its operation; a word of no operation has its field as it is
abbrev pub movei_number : Option MoveiOp → ℕ → ℕ
movei_number none n = n
movei_number (some op) n = number_movei op n

-- "MOVEI: .. opcode 26-24, d 23-18, immediate 17-2, vector flag bit 1."
abbrev pub immediate_of : ℕ → ℕ
immediate_of w = movei_number (operation_at table_movei (field w opcode_movei)) (field w immediate_movei)

abbrev pub unpack_movei : ℕ → Numbers
unpack_movei w = numbers 2 (field w opcode_movei) (field w vector_flag) (field w first_register) (immediate_of w) 0

-- "J: .. opcode 26-24, register 23-18, signed byte offset 17-0"
abbrev pub unpack_j : ℕ → Numbers
unpack_j w = numbers 3 (field w opcode_j) 0 (field w first_register) (signed_field w offset_j) 0

-- "C: .. opcode 26-24, first register 23-18, second 17-12."
abbrev pub unpack_c : ℕ → Numbers
unpack_c w = numbers 4 (field w opcode_c) 0 (field w first_register) (field w second_register) 0

-- "M: .. opcode 29-24, register 23-18, scalar base 17-12, signed offset 11-3"
abbrev pub unpack_m : ℕ → Numbers
unpack_m w = numbers 5 (field w opcode_m) 0 (field w first_register) (field w second_register) (signed_field w offset_m)

-- 6 and zeros where it has no format
abbrev pub unpacks : ℕ → Formats Numbers
unpacks w =
    record { r = unpack_r w; i = unpack_i w; movei = unpack_movei w; j = unpack_j w; c = unpack_c w; m = unpack_m w; other = numbers 6 0 0 0 0 0 }

-- the numbers of a word
unfoldable pub numbers_of : ℕ → Numbers
numbers_of w = by_format unpacks w

-- each number modulo what its part has room for
abbrev pub reduced : List Part → List ℕ → List ℕ
reduced [] vs = []
reduced (p ∷ ps) [] = []
reduced (p ∷ ps) (v ∷ vs) = v % 2 ^ width p ∷ reduced ps vs

-- the word with these numbers in the layout's parts
abbrev pub filled : List Part → List ℕ → ℕ
filled layout vs = pack layout (reduced layout vs)

-- The word with six numbers in its fields, by format. "Unnamed bits are 0."

abbrev pub pack_r : Numbers → ℕ
pack_r n = filled layout_r (prefix_r ∷ n.opcode ∷ n.first ∷ n.second ∷ n.third ∷ 0 ∷ 0 ∷ n.flags ∷ 0 ∷ [])

abbrev pub pack_i : Numbers → ℕ
pack_i n = filled layout_i (prefix_i ∷ n.opcode ∷ n.first ∷ n.second ∷ n.third ∷ n.flags ∷ 0 ∷ [])

abbrev pub pack_movei : Numbers → ℕ
pack_movei n = filled layout_movei (prefix_movei ∷ n.opcode ∷ n.first ∷ n.second ∷ n.flags ∷ 0 ∷ [])

abbrev pub pack_j : Numbers → ℕ
pack_j n = filled layout_j (prefix_j ∷ n.opcode ∷ n.first ∷ n.second ∷ [])

abbrev pub pack_c : Numbers → ℕ
pack_c n = filled layout_c (prefix_c ∷ n.opcode ∷ n.first ∷ n.second ∷ 0 ∷ [])

abbrev pub pack_m : Numbers → ℕ
pack_m n = filled layout_m (prefix_m ∷ n.opcode ∷ n.first ∷ n.second ∷ n.third ∷ 0 ∷ 0 ∷ [])

-- 0, which is undefined, where no format has the number
unfoldable pub word_of : Numbers → ℕ
word_of n =
    cond (eqb n.format 0) (pack_r n)
    (cond (eqb n.format 1) (pack_i n)
    (cond (eqb n.format 2) (pack_movei n)
    (cond (eqb n.format 3) (pack_j n)
    (cond (eqb n.format 4) (pack_c n)
    (cond (eqb n.format 5) (pack_m n)
    0)))))
