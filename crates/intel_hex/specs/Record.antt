-- A line of a file, and the record that it is (document 02, T-06): "types 00, 01 and 04 (the last two with address 0), 1 to 255 data
-- bytes a record"; "hex is upper case, every line ends in LF or CR LF".
use Rattle.std.specs.Prelude.{ℕ, ◌+◌, ◌-◌, ◌*◌, ◌%◌, Bool, true, false, ◌&&◌, not, cond, List, [], ◌∷◌, ◌++◌, eqb, length, take, get_or}
use Rattle.std.proofs.Math.Option.{Option, none, some}
use Rattle.intel_hex.specs.Digits.{pairs, total}

-- a line: its text without the LF, and whether the LF is there
pub record Line : Type 0 where
  pub text : List ℕ
  pub ended : Bool

abbrev pub line : List ℕ → Bool → Line
line text ended = record { text = text; ended = ended }

-- what is left behind the last LF
abbrev pub rest : List ℕ → List Line
rest [] = []
rest (c ∷ text) = line (c ∷ text) false ∷ []

-- the lines of a file, behind what was read of the first
unfoldable pub lines_from : List ℕ → List ℕ → List Line
lines_from begun [] = rest begun
lines_from begun (c ∷ text) = cond (eqb c 10) (line begun true ∷ lines_from [] text) (lines_from (begun ++ c ∷ []) text)

abbrev pub lines : List ℕ → List Line
lines text = lines_from [] text

-- "CR LF": a line's text without the CR at its end
unfoldable pub without_cr : List ℕ → List ℕ
without_cr text = cond (eqb (get_or text (length text - 1) 0) 13) (take (length text - 1) text) text

-- a record: data at an address of 16 bits (type 00), the upper half of the addresses that follow (04), the end (01); or no record
pub data Record : Type 0 where
  no_record : Record
  data_record : ℕ → List ℕ → Record
  upper_record : ℕ → Record
  end_record : Record

-- "types 00, 01 and 04 (the last two with address 0)": a type, an address, the length byte, and so many bytes
abbrev pub typed : ℕ → ℕ → ℕ → List ℕ → Record
typed type address n bytes =
    cond (eqb type 0 && not (eqb n 0)) (data_record address bytes)
    (cond (eqb type 1 && eqb address 0 && eqb n 0) end_record
    (cond (eqb type 4 && eqb address 0 && eqb n 2) (upper_record (256 * get_or bytes 0 0 + get_or bytes 1 0)) no_record))

-- length byte, address, type, so many data bytes, and a checksum that makes the sum of all bytes a multiple of 256
abbrev pub fields_of : List ℕ → Record
fields_of (n ∷ high ∷ low ∷ type ∷ behind) =
    cond (eqb (length behind) (n + 1) && eqb (total (n ∷ high ∷ low ∷ type ∷ behind) % 256) 0)
    (typed type (256 * high + low) n (take n behind))
    no_record
fields_of (n ∷ high ∷ low ∷ []) = no_record
fields_of (n ∷ high ∷ []) = no_record
fields_of (n ∷ []) = no_record
fields_of [] = no_record

abbrev pub bytes_record : Option (List ℕ) → Record
bytes_record none = no_record
bytes_record (some bytes) = fields_of bytes

-- a colon, and the bytes
abbrev pub colon_record : List ℕ → Record
colon_record [] = no_record
colon_record (c ∷ digits) = cond (eqb c 58) (bytes_record (pairs digits)) no_record

unfoldable pub record_of : List ℕ → Record
record_of text = colon_record (without_cr text)

-- a line without its LF is no record
abbrev pub record_in : Line → Record
record_in l = cond l.ended (record_of l.text) no_record
