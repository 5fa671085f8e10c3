-- Small files, computed: what they must become was worked out by hand and by a second program.
use Rattle.std.specs.Prelude.{ℕ, [], ◌∷◌, ◌≡◌}
use Prim.Native.String.{String}
use Rattle.answer.specs.Answer.{given, refused}
use Rattle.isa.specs.Text.{bytes}
use Rattle.intel_hex.specs.Export.{exports, export_into}
use Rattle.intel_hex.specs.Import.{Import, imports, import_into}
use Rattle.intel_hex.specs.Record.{record_of, upper_record}

-- a file imported into three words
abbrev pub of-file : String → Import
of-file file = import_into (bytes file) (7 ∷ 8 ∷ 9 ∷ [])

-- a refusal with its line: nothing changes
abbrev pub refusal : ℕ → ℕ → Import
refusal number line = imports (refused number) line (7 ∷ 8 ∷ 9 ∷ [])

pub record FiguresHold : Type 0 where
  -- one word, CR LF; places past the word keep their content
  pub word : of-file ":040000000403020AE9\r\n:00000001FF\n" ≡ imports (given 1) 0 (0x0A020304 ∷ 8 ∷ 9 ∷ [])
  -- what lies before the first record, and a gap of three bytes
  pub gap : of-file ":01000100AA54\n:0300050011223392\n:00000001FF\n" ≡ imports (given 2) 0 (0x0000AA00 ∷ 0x33221100 ∷ 9 ∷ [])
  -- type 04
  pub upper : of-file ":020000040000FA\n:040000000403020AE9\n:00000001FF\n" ≡ imports (given 1) 0 (0x0A020304 ∷ 8 ∷ 9 ∷ [])
  -- its upper half, the high byte first
  pub upper-half : record_of (bytes ":020000040102F7") ≡ upper_record 258
  -- 15: checksum, lower case, no LF behind the last line, an empty line, a length byte of more than there is, an end record with an
  -- address, data of no bytes
  pub checksum : of-file ":040000000403020AE8\n:00000001FF\n" ≡ refusal 15 1
  pub lower : of-file ":040000000403020ae9\n:00000001FF\n" ≡ refusal 15 1
  pub cut : of-file ":040000000403020AE9\n:00000001FF" ≡ refusal 15 2
  pub empty : of-file ":040000000403020AE9\n\n:00000001FF\n" ≡ refusal 15 2
  pub length-byte : of-file ":10000000000000000000000000000000000000F0\n:00000001FF\n" ≡ refusal 15 1
  pub placed_end : of-file ":00000101FE\n" ≡ refusal 15 1
  pub no-data : of-file ":0000000000\n:00000001FF\n" ≡ refusal 15 1
  -- 16: overlap by one byte; a wrap past FFFF; on one line 15 comes first
  pub overlap : of-file ":020000000102FB\n:020001000304F6\n:00000001FF\n" ≡ refusal 16 2
  pub wrap : of-file ":02FFFF000102FD\n:00000001FF\n" ≡ refusal 16 1
  pub both : of-file ":020000000102FB\n:020001000304F7\n:00000001FF\n" ≡ refusal 15 2
  -- 17: no end record, seen past the last line; anything after it, even what is no record; a file of no bytes
  pub endless : of-file ":040000000403020AE9\n" ≡ refusal 17 2
  pub behind : of-file ":00000001FF\nx" ≡ refusal 17 2
  pub nothing : of-file "" ≡ refusal 17 1
  -- 1: no bytes, part words; before 18, which 17 bytes would be too
  pub no_bytes : of-file ":00000001FF\n" ≡ refusal 1 0
  pub part : of-file ":0100000055AA\n:00000001FF\n" ≡ refusal 1 0
  pub part-first : of-file ":110000000000000000000000000000000000000000EF\n:00000001FF\n" ≡ refusal 1 0
  -- 18
  pub room : of-file ":1000000000000000000000000000000000000000F0\n:00000001FF\n" ≡ refusal 18 0
  -- export: one word, five words (the last record is short), the buffer's place behind the text; 18, and 1
  pub written : export_into (0x0A020304 ∷ []) (bytes "--------------------------------!") ≡ exports (given 32) (bytes ":040000000403020AE9\n:00000001FF\n!")
  pub five : export_into (1 ∷ 2 ∷ 3 ∷ 4 ∷ 0xFFFFFFFF ∷ []) (bytes "----------------------------------------------------------------------------")
      ≡ exports (given 76) (bytes ":1000000001000000020000000300000004000000E6\n:04001000FFFFFFFFF0\n:00000001FF\n")
  pub tight : export_into (0x0A020304 ∷ []) (bytes "-------------------------------") ≡ exports (refused 18) (bytes "-------------------------------")
  pub no_words : export_into [] (bytes "--") ≡ exports (refused 1) (bytes "--")
