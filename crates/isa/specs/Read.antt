-- What a word is read as (document 01, "The words").
use Rattle.std.specs.Prelude.{ℕ, Bool, true, false, cond, [], ◌∷◌, ◌==◌}
use Rattle.std.proofs.Math.Option.{Option, none, some}
use Rattle.answer.specs.Answer.{Answer, given, refused, undefined, not-fitted}
use Rattle.word_layout.specs.Layout.{field, signed_field, first_register, second_register, third_register, bit0, format_r, prefix_r, opcode_r, bit5, bit_l, vector_flags_r, format_i, prefix_i, opcode_i, immediate_i, vector_flags_i, format_movei, prefix_movei, opcode_movei, immediate_movei, vector_flag, format_j, prefix_j, opcode_j, offset_j, format_c, prefix_c, opcode_c, low_bits_c, format_m, prefix_m, opcode_m, offset_m, bits_m}
use Rattle.isa.specs.Number.{number_movei}
use Rattle.isa.specs.Rule.{allows_r, allows_i, allows_movei, allows_j, allows_c, allows_m}
use Rattle.isa.specs.Table.{table_r, table_movei, table_j, table_c, table_m, not-fitted-opcodes, operation_at}
use Rattle.isa.specs.Test.{all, is_in}
use Rattle.isa.specs.Types.{Operation, MoveiOp, JumpOp, ControlOp, MemoryOp, Instruction, R, I, Movei, J, C, M}

-- the instruction, where all is as its line says; "What follows no line here is undefined."
unfoldable pub guarded : Bool → Instruction → Answer Instruction
guarded true i = given i
guarded false i = refused undefined

-- what an opcode's word is read as: by its operation, where the table has one, else by a number
unfoldable pub listed : {A : Type 0} → Option A → (A → Answer Instruction) → ℕ → Answer Instruction
listed none f n = refused n
listed (some op) f n = f op

-- A word of each format, as a word of an operation. "Unnamed bits are 0."

-- "Not fitted: .. any opcode above with l = 1, other bits any."
unfoldable pub as_r : ℕ → Operation → Answer Instruction
as_r w op =
    cond (field w bit_l == 1) (refused not-fitted)
    (guarded
    (all ((field w bit5 == 0) ∷ (field w bit0 == 0) ∷
    allows_r op (field w vector_flags_r) (field w first_register) (field w third_register) ∷ []))
    (R op (field w vector_flags_r) (field w first_register) (field w second_register) (field w third_register)))

unfoldable pub as_i : ℕ → Operation → Answer Instruction
as_i w op =
    guarded (all ((field w bit0 == 0) ∷ allows_i op (field w vector_flags_i) (field w first_register) ∷ []))
    (I op (field w vector_flags_i) (field w first_register) (field w second_register) (signed_field w immediate_i))

unfoldable pub as_movei : ℕ → MoveiOp → Answer Instruction
as_movei w op =
    guarded (all ((field w bit0 == 0) ∷ allows_movei (field w vector_flag) (field w first_register) ∷ []))
    (Movei op (field w vector_flag) (field w first_register) (number_movei op (field w immediate_movei)))

unfoldable pub as_j : ℕ → JumpOp → Answer Instruction
as_j w op =
    guarded (allows_j op (field w first_register) (signed_field w offset_j))
    (J op (field w first_register) (signed_field w offset_j))

unfoldable pub as_c : ℕ → ControlOp → Answer Instruction
as_c w op =
    guarded (all ((field w low_bits_c == 0) ∷ allows_c op (field w first_register) (field w second_register) ∷ []))
    (C op (field w first_register) (field w second_register))

-- "Bit 2 or 1 set with such an opcode, other bits any: not fitted."
unfoldable pub as_m : ℕ → MemoryOp → Answer Instruction
as_m w op =
    cond (field w bits_m == 0)
    (guarded (all ((field w bit0 == 0) ∷ allows_m op (field w first_register) ∷ []))
    (M op (field w first_register) (field w second_register) (signed_field w offset_m)))
    (refused not-fitted)

-- "Not fitted: opcodes .. with any other bits"
unfoldable pub read_r : ℕ → Answer Instruction
read_r w = listed (operation_at table_r (field w opcode_r)) (as_r w) (cond (is_in (field w opcode_r) not-fitted-opcodes) not-fitted undefined)

unfoldable pub read_i : ℕ → Answer Instruction
read_i w = listed (operation_at table_r (field w opcode_i)) (as_i w) undefined

unfoldable pub read_movei : ℕ → Answer Instruction
read_movei w = listed (operation_at table_movei (field w opcode_movei)) (as_movei w) undefined

unfoldable pub read_j : ℕ → Answer Instruction
read_j w = listed (operation_at table_j (field w opcode_j)) (as_j w) undefined

unfoldable pub read_c : ℕ → Answer Instruction
read_c w = listed (operation_at table_c (field w opcode_c)) (as_c w) undefined

unfoldable pub read_m : ℕ → Answer Instruction
read_m w = listed (operation_at table_m (field w opcode_m)) (as_m w) undefined

-- what a word is for each format, and where it has none
pub record Formats (A : Type 0) : Type 0 where
  pub r : A
  pub i : A
  pub movei : A
  pub j : A
  pub c : A
  pub m : A
  pub other : A

-- what a word is by its format, which its upper bits say
abbrev pub by_format : {A : Type 0} → (ℕ → Formats A) → ℕ → A
by_format f w =
    cond (field w format_r == prefix_r) (f w).r
    (cond (field w format_i == prefix_i) (f w).i
    (cond (field w format_movei == prefix_movei) (f w).movei
    (cond (field w format_j == prefix_j) (f w).j
    (cond (field w format_c == prefix_c) (f w).c
    (cond (field w format_m == prefix_m) (f w).m
    (f w).other)))))

abbrev pub reads : ℕ → Formats (Answer Instruction)
reads w =
    record { r = read_r w; i = read_i w; movei = read_movei w; j = read_j w; c = read_c w; m = read_m w; other = refused undefined }

-- what a word is read as
unfoldable pub read : ℕ → Answer Instruction
read w = by_format reads w
