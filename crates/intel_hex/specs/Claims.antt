-- What is claimed beside the contracts (document 02, T-06).
use Rattle.std.specs.Prelude.{ℕ, zero, suc, ◌+◌, ◌-◌, ◌*◌, ◌/◌, ◌≤◌, ◌<◌, Bool, false, ◌&&◌, not, cond, List, [], ◌∷◌, ◌++◌, map, ◌≡◌, ltb, length, get_or, take, drop}
use Rattle.answer.specs.Answer.{given}
use Rattle.answer.specs.Refusal.{bad_program}
use Rattle.intel_hex.specs.Export.{export_text, exports, export_into}
use Rattle.intel_hex.specs.File.{image, image_of}
use Rattle.intel_hex.specs.Import.{imports, import_into}
use Rattle.intel_hex.specs.Program.{program_bytes}
use Rattle.intel_hex.specs.Record.{lines, Record, no_record, data_record, upper_record, end_record, record_in}

-- "importing it gives the program again":
-- for every program of 1 to 16,384 words of 32 bits, and every buffer that has room for it
abbrev pub ImportsExport : Type 0
ImportsExport =
    (words buffer : List ℕ) → bad_program (length words) ≡ false → ((i : ℕ) → get_or words i 0 < 0x100000000) → length words ≤ length buffer →
    import_into (export_text words) buffer ≡ imports (given (length words)) 0 (words ++ drop (length words) buffer)

-- the same of the two calls, whose contracts are these definitions: what export left in its buffer, so many bytes as it answered
abbrev pub ReadsBack : Type 0
ReadsBack =
    (words text left buffer : List ℕ) (n : ℕ) → ((i : ℕ) → get_or words i 0 < 0x100000000) → length words ≤ length buffer →
    exports (given n) left ≡ export_into words text →
    import_into (take n left) buffer ≡ imports (given (length words)) 0 (words ++ drop (length words) buffer)

-- "Export uses 16 data bytes a record, the last may be shorter, with LF and no type 04": the first k records of a program's bytes
unfoldable pub data_records : List ℕ → ℕ → List Record
data_records bytes zero = []
data_records bytes (suc k) = data_records bytes k ++ data_record (16 * k) (take 16 (drop (16 * k) bytes)) ∷ []

-- the lines of what export writes are these and the end record, in this order, and no byte of it is a CR
pub record Writes (words : List ℕ) : Type 0 where
  pub records : map record_in (lines (export_text words)) ≡ data_records (program_bytes words) ((length words + 3) / 4) ++ end_record ∷ []
  pub no-CR : (i : ℕ) → get_or (export_text words) i 0 ≡ 13 → ⊥

abbrev pub ExportsRecords : Type 0
ExportsRecords = (words : List ℕ) → bad_program (length words) ≡ false → Writes words

-- "addresses rising without overlap or wrap, gaps read as zero bytes", address by address: the data of a record, from an address on
pub record Piece : Type 0 where
  pub from : ℕ
  pub bytes : List ℕ

abbrev pub piece : ℕ → List ℕ → Piece
piece from bytes = record { from = from; bytes = bytes }

-- the data records of a file; a type 04 says the upper half of the addresses that follow
unfoldable pub pieces : ℕ → List Record → List Piece
pieces upper [] = []
pieces upper (no_record ∷ rs) = pieces upper rs
pieces upper (end_record ∷ rs) = pieces upper rs
pieces upper (upper_record next ∷ rs) = pieces next rs
pieces upper (data_record address bytes ∷ rs) = piece (65536 * upper + address) bytes ∷ pieces upper rs

abbrev pub covers : Piece → ℕ → Bool
covers p a = not (ltb a p.from) && ltb a (p.from + length p.bytes)

-- the byte at an address: that of the record that covers it, and zero where none does
unfoldable pub byte_at : List Piece → ℕ → ℕ
byte_at [] a = 0
byte_at (p ∷ ps) a = cond (covers p a) (get_or p.bytes (a - p.from) 0) (byte_at ps a)

-- so of every file that is not refused with 15, 16 or 17
abbrev pub ReadsBytes : Type 0
ReadsBytes =
    (text bytes : List ℕ) → image_of text ≡ image bytes →
    (a : ℕ) → get_or bytes a 0 ≡ byte_at (pieces 0 (map record_in (lines text))) a
