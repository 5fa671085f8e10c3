-- What a call gives back: a value, or a number of document 01's table "Numbers given back".
use Rattle.std.specs.Prelude.{ℕ}

pub data Answer (A : Type 0) : Type 0 where
  given : A → Answer A
  refused : ℕ → Answer A

-- The table: "no.", and "given exactly when".

-- "1: program has 0 or more than 16,384 words (lister: also input not whole words)"
abbrev pub bad-program : ℕ
bad-program = 1

-- "2: register file is not 8,704 words"
abbrev pub bad-registers : ℕ
bad-registers = 2

-- "3: memory length is not allowed"
abbrev pub bad-memory : ℕ
bad-memory = 3

-- "4: machine record is not well formed, a number in it is out of range, or an image field not carried is not 0"
abbrev pub bad-record : ℕ
bad-record = 4

-- "5: start mask is 0 or above 255"
abbrev pub bad-mask : ℕ
bad-mask = 5

-- "6: instruction to be written has no word"
abbrev pub no_word : ℕ
no_word = 6

-- "7: word to be read is undefined"
abbrev pub undefined : ℕ
undefined = 7

-- "8: word to be read is not fitted"
abbrev pub not-fitted : ℕ
not-fitted = 8

-- "9: image length differs from 36,948 + 68 x (memory length / 64)"; 02, T-05: "Refusal 9 knows both lengths"
abbrev pub bad-length : ℕ
bad-length = 9

-- "10: an image record has a wrong mark, or a thread, register or block number out of place"
abbrev pub bad-image : ℕ
bad-image = 10

-- Document 02 adds to the table. T-05: "11, old form asked for, a count not 0, dropping not allowed"
abbrev pub counts-lost : ℕ
counts-lost = 11

-- T-01: "first 12 at line 0, source too long; then 12 too long or malformed", "else 12 without a word"
abbrev pub bad-source : ℕ
bad-source = 12

-- "13 label unknown, repeated or the 257th"
abbrev pub bad-label : ℕ
bad-label = 13

-- "14 too deep or a number or sum too large"
abbrev pub too_large : ℕ
too_large = 14

-- T-06: "15 bad record or checksum"
abbrev pub bad-hex-record : ℕ
bad-hex-record = 15

-- "16 order, overlap or wrap past FFFF"
abbrev pub bad-hex-order : ℕ
bad-hex-order = 16

-- "17 no end record (seen past the last line) or anything after it"
abbrev pub bad-hex-end : ℕ
bad-hex-end = 17

-- T-01: "18 last, word buffer too short"; T-06: "18 buffer too short, on export too"
abbrev pub short-buffer : ℕ
short-buffer = 18

-- T-14: "19 minute now or kept from the last call above 1439, or a line that is no such number"
abbrev pub bad-minute : ℕ
bad-minute = 19

-- "20 memory under 128 bytes"
abbrev pub small-memory : ℕ
small-memory = 20
