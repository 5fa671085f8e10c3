-- Rows of document 01, "Saved image" and "Numbers given back", for images: each is computed.
use Prim.Native.Char.{code}
use Rattle.std.specs.Prelude.{ℕ, List, [], ◌∷◌, ◌++◌, ◌≡◌, replicate, set, take, true, false}
use Prim.Native.String.{String, char_at}
use Rattle.std.proofs.Math.Option.{none, some}
use Rattle.machine.specs.State.{state}
use Rattle.thread_entry.specs.Entry.{entry_of}
use Rattle.machine.specs.Machine.{counted, zeroed, start}
use Rattle.image_layout.specs.Layout.{of_blocks, record_kinds, head_of, row_of, laid_up_to}
use Rattle.little_endian.specs.Numbers.{bytes_of}
use Rattle.image.specs.Image.{body_of}
use Rattle.image.specs.Opening.{record_bytes, opening_number}
use Rattle.image.specs.Refusal.{write_number, read_number}
use Rattle.image.specs.Types.{Sr, Vr, Mm, Newest, Old, Machine, Idle, Running, Ended, Trapped, Waiting}

-- a two-byte mark in ASCII
abbrev pub mark : String → List ℕ
mark s = code (char_at s 0) ∷ code (char_at s 1) ∷ []

-- a record that has an entry of each status, with counts of turns, of an idle thread too
abbrev pub sample : Machine
sample = record {
  enabled = 0b01111011;
  last = 5;
  threads =
      entry_of Running 0x12345678 ∷ entry_of Ended 1 ∷ entry_of Idle 256 ∷ entry_of (Trapped 6) 0 ∷
      entry_of (Waiting 31 8) 0 ∷ entry_of (Waiting 0 3) 0 ∷ entry_of Running 0xFFFFFFFF ∷ entry_of Idle 0 ∷ [];
}

-- an entry in the old form, and in the newest
abbrev th : ℕ → ℕ → ℕ → ℕ → ℕ → List ℕ
th thread status reason id count = mark "TH" ++ thread ∷ status ∷ reason ∷ id ∷ count ∷ []

abbrev ti : ℕ → ℕ → ℕ → ℕ → ℕ → List ℕ → List ℕ
ti thread status reason id count turns = mark "TI" ++ thread ∷ status ∷ reason ∷ id ∷ count ∷ turns

abbrev none_yet : List ℕ
none_yet = 0 ∷ 0 ∷ 0 ∷ 0 ∷ []

pub record BytesHold : Type 0 where
  -- "HD, last, enabled", of every record
  pub hd : (m : Machine) → take 4 (record_bytes m) ≡ mark "HD" ++ m.last ∷ m.enabled ∷ []
  -- "eight TH: thread, status, reason, id, count (0 where not carried)"
  pub old-bytes : laid_up_to record_kinds (of_blocks Old 0) (body_of Old (state sample [] [])) ≡ mark "HD" ++ 5 ∷ 123 ∷ th 0 1 0 0 0 ++
      th 1 2 0 0 0 ++ th 2 0 0 0 0 ++ th 3 3 6 0 0 ++ th 4 4 0 31 8 ++ th 5 4 0 0 3 ++ th 6 1 0 0 0 ++ th 7 0 0 0 0
  -- "TH becomes TI, four bytes longer at its end" (02, T-05)
  pub record-bytes : record_bytes sample ≡ mark "HD" ++ 5 ∷ 123 ∷ ti 0 1 0 0 0 (0x78 ∷ 0x56 ∷ 0x34 ∷ 0x12 ∷ []) ++
      ti 1 2 0 0 0 (1 ∷ 0 ∷ 0 ∷ 0 ∷ []) ++ ti 2 0 0 0 0 (0 ∷ 1 ∷ 0 ∷ 0 ∷ []) ++ ti 3 3 6 0 0 none_yet ++ ti 4 4 0 31 8 none_yet ++
      ti 5 4 0 0 3 none_yet ++ ti 6 1 0 0 0 (255 ∷ 255 ∷ 255 ∷ 255 ∷ []) ++ ti 7 0 0 0 0 none_yet
  -- "SR: thread", "VR: thread, register", "MM ..: block number in two bytes"; "Numbers rise from 0, by thread first." "little endian"
  pub sr : head_of (row_of (of_blocks Newest 1024) Sr) 5 ≡ mark "SR" ++ 5 ∷ []
  pub vr : head_of (row_of (of_blocks Newest 1024) Vr) 130 ≡ mark "VR" ++ 2 ∷ 2 ∷ []
  pub mm : head_of (row_of (of_blocks Newest 1024) Mm) 259 ≡ mark "MM" ++ 3 ∷ 1 ∷ []
  pub word : bytes_of 1 (0x12345678 ∷ []) ≡ 0x78 ∷ 0x56 ∷ 0x34 ∷ 0x12 ∷ []

-- "A call checks in the order 1, 2, 3, 5, 9, 10, 4, .. and the first that applies is given."
-- The writer: of a room, a memory and a buffer so long, and a record. One with every number 0 is not well formed.
pub record WriteOrder : Type 0 where
  pub room : write_number Newest false 0 0 0 zeroed ≡ some 2
  pub memory : write_number Newest false 8704 0 0 zeroed ≡ some 3
  pub buffer : write_number Newest false 8704 64 37016 zeroed ≡ some 9
  pub not-well-formed : write_number Newest false 8704 64 37048 zeroed ≡ some 4
  pub taken : write_number Newest false 8704 64 37048 (counted (start 1) 0) ≡ none
  -- the old form, with a count that is not 0: "11 .. comes after 9 and 4" (02, T-05)
  pub old-buffer : write_number Old false 8704 64 37048 (counted zeroed 0) ≡ some 9
  pub old-not-well-formed : write_number Old false 8704 64 37016 (counted zeroed 0) ≡ some 4
  pub old-count : write_number Old false 8704 64 37016 (counted (start 1) 0) ≡ some 11
  pub old-last-count : write_number Old false 8704 64 37016 (counted (start 1) 7) ≡ some 11
  pub old-dropped : write_number Old true 8704 64 37016 (counted (start 1) 0) ≡ none
  pub old-taken : write_number Old false 8704 64 37016 (start 1) ≡ none

-- The reader: of an image, and a room and a memory so long. An image of zeros has wrong marks and no well-formed record.
pub record ReadOrder : Type 0 where
  pub room : read_number [] 0 0 ≡ some 2
  pub memory : read_number [] 8704 0 ≡ some 3
  pub length : read_number [] 8704 64 ≡ some 9
  pub marks : read_number (replicate 37048 0) 8704 64 ≡ some 10
  -- "Refusal 9 knows both lengths" (02, T-05)
  pub old-marks : read_number (replicate 37016 0) 8704 64 ≡ some 10
  pub old-length : read_number (replicate 37016 0) 8704 128 ≡ some 9
  pub neither : read_number (replicate 37017 0) 8704 64 ≡ some 9

-- The bytes of a record alone: as written, with a thread's mark or number changed, and with a reason where none is carried.
pub record OpeningOrder : Type 0 where
  pub taken : opening_number (record_bytes sample) ≡ none
  pub not-well-formed : opening_number (record_bytes zeroed) ≡ some 4
  pub not_carried : opening_number (set (record_bytes sample) 8 1) ≡ some 4
  pub marked : opening_number (set (record_bytes zeroed) 15 0) ≡ some 10
  pub old-mark : opening_number (set (record_bytes sample) 5 72) ≡ some 10
  pub out-of-place : opening_number (set (record_bytes zeroed) 17 2) ≡ some 10
