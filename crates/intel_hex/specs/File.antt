-- What the records of a file say (document 02, T-06): "addresses rising without overlap or wrap, gaps read as zero bytes"; "Refusals: 15 bad
-- record or checksum, 16 order, overlap or wrap past FFFF, 17 no end record (seen past the last line) or anything after it, the first in the
-- file, on one line 17, 15, 16".
use Rattle.std.specs.Prelude.{ℕ, ◌+◌, ◌-◌, ◌*◌, Bool, true, false, ◌||◌, cond, List, [], ◌∷◌, ◌++◌, ltb, length, replicate}
use Rattle.answer.specs.Answer.{bad-hex-record, bad-hex-order, bad-hex-end}
use Rattle.intel_hex.specs.Record.{Line, lines, Record, no_record, data_record, upper_record, end_record, record_in}

-- a file read so far: the number of the next line, the upper half of addresses, the bytes from address 0 on, and whether the end record
-- was there; or a refusal with its line
pub data Progress : Type 0 where
  reading : ℕ → ℕ → List ℕ → Bool → Progress
  stopped : ℕ → ℕ → Progress

-- "gaps read as zero bytes": bytes, and more of them from an address on
unfoldable pub placed : List ℕ → ℕ → List ℕ → List ℕ
placed bytes from more = bytes ++ replicate (from - length bytes) 0 ++ more

-- "order, overlap or wrap past FFFF"
abbrev pub misplaced : ℕ → ℕ → ℕ → ℕ → Bool
misplaced top upper address n = ltb (65536 * upper + address) top || ltb 65536 (address + n)

abbrev pub taken : ℕ → ℕ → List ℕ → Record → Progress
taken n upper bytes no_record = stopped bad-hex-record n
taken n upper bytes end_record = reading (n + 1) upper bytes true
taken n upper bytes (upper_record next) = reading (n + 1) next bytes false
taken n upper bytes (data_record address more) =
    cond (misplaced (length bytes) upper address (length more)) (stopped bad-hex-order n)
    (reading (n + 1) upper (placed bytes (65536 * upper + address) more) false)

-- one line more: "on one line 17, 15, 16"
abbrev pub step : Progress → Line → Progress
step (stopped number n) l = stopped number n
step (reading n upper bytes true) l = stopped bad-hex-end n
step (reading n upper bytes false) l = taken n upper bytes (record_in l)

unfoldable pub steps : Progress → List Line → Progress
steps p [] = p
steps p (l ∷ ls) = steps (step p l) ls

abbrev pub start : Progress
start = reading 1 0 [] false

-- what a whole file says: the bytes from address 0 on, or a refusal with its line
pub data Image : Type 0 where
  image : List ℕ → Image
  no_image : ℕ → ℕ → Image

abbrev pub finish : Progress → Image
finish (stopped number n) = no_image number n
finish (reading n upper bytes true) = image bytes
finish (reading n upper bytes false) = no_image bad-hex-end n

unfoldable pub image_of : List ℕ → Image
image_of text = finish (steps start (lines text))
