-- What export writes (document 02, T-06): "Export uses 16 data bytes a record, the last may be shorter, with LF and no type 04".
use Rattle.std.specs.Prelude.{ℕ, zero, suc, ◌+◌, ◌-◌, ◌*◌, ◌/◌, ◌%◌, cond, List, [], ◌∷◌, ◌++◌, ltb, length, take, drop, Result, Ok, Err}
use Rattle.answer.specs.Answer.{Answer, given, refused, bad-program, short-buffer}
use Rattle.answer.specs.Refusal.{bad_program, row_of}
use Rattle.answer.specs.declared.refusal.Refusal.{Refusal}
use Rattle.intel_hex.specs.Digits.{hexes, total}
use Rattle.intel_hex.specs.Program.{program_bytes}

-- what makes the sum of all bytes a multiple of 256
abbrev pub checksum : ℕ → ℕ
checksum sum = (256 - sum % 256) % 256

-- length byte, address, type
abbrev pub heads : ℕ → ℕ → ℕ → List ℕ
heads n address type = n ∷ address / 256 ∷ address % 256 ∷ type ∷ []

-- a record of a type, an address and bytes, with its LF
unfoldable pub record_text : ℕ → ℕ → List ℕ → List ℕ
record_text type address bytes =
    58 ∷ hexes (heads (length bytes) address type ++ bytes ++ checksum (total (heads (length bytes) address type ++ bytes)) ∷ []) ++ 10 ∷ []

-- "Export uses 16 data bytes a record, the last may be shorter": the first k records of a program's bytes
unfoldable pub body : List ℕ → ℕ → List ℕ
body bytes zero = []
body bytes (suc k) = body bytes k ++ record_text 0 (16 * k) (take 16 (drop (16 * k) bytes))

-- all of them (four words have 16 bytes), and the end record
unfoldable pub export_text : List ℕ → List ℕ
export_text words = body (program_bytes words) ((length words + 3) / 4) ++ record_text 1 0 []

-- the length of the text or the number of the refusal, and the lent text
pub record Export : Type 0 where
  pub answer : Answer ℕ
  pub text : List ℕ

abbrev pub exports : Answer ℕ → List ℕ → Export
exports answer text = record { answer = answer; text = text }

-- the same of the code's answer
abbrev pub exported : Result ℕ Refusal → List ℕ → Export
exported (Ok n) text = exports (given n) text
exported (Err refusal) text = exports (refused (row_of refusal)) text

-- 1 for the program's length, "then 18 buffer too short, on export too": a program, and a buffer for the text. A refusal changes nothing,
-- and places of the buffer past the text keep their content
unfoldable pub export_into : List ℕ → List ℕ → Export
export_into words buffer =
    cond (bad_program (length words)) (exports (refused bad-program) buffer)
    (cond (ltb (length buffer) (length (export_text words))) (exports (refused short-buffer) buffer)
    (exports (given (length (export_text words))) (export_text words ++ drop (length (export_text words)) buffer)))
