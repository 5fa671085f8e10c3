-- Bytes stored into words one by one: what the code of the second pass does.
use Rattle.std.specs.Prelude.{ℕ, zero, suc, ◌+◌, ◌*◌, ◌/◌, ◌%◌, ◌-◌, ◌≤◌, List, [], ◌∷◌, ◌++◌, ◌≡◌, length, get_or, set, drop, replicate, Option, Some, None}
use Rattle.intel_hex.specs.File.{image, image_of}
use Rattle.program.specs.Program.{program_in}
use Rattle.intel_hex.specs.Types.{Heading, Data, Base, End, Place}
use Rattle.intel_hex.specs.Digits.{pair}

-- what a word is divided by for its i-th byte
abbrev pub powers : List ℕ
powers = 1 ∷ 0x100 ∷ 0x10000 ∷ 0x1000000 ∷ []

-- a byte at an address, the bytes above it in its word zero
unfoldable pub put_byte : List ℕ → ℕ → ℕ → List ℕ
put_byte l a b = set l (a / 4) (get_or l (a / 4) 0 % get_or powers (a % 4) 0 + b * get_or powers (a % 4) 0)

unfoldable pub store_all : List ℕ → ℕ → List ℕ → List ℕ
store_all l a [] = l
store_all l a (b ∷ bytes) = store_all (put_byte l a b) (a + 1) bytes

-- n bytes that digits write from the k-th pair on
unfoldable pub pair_bytes : List ℕ → ℕ → ℕ → List ℕ
pair_bytes digits k zero = []
pair_bytes digits k (suc n) = pair (get_or digits (k + k) 0) (get_or digits (k + k + 1) 0) % 256 ∷ pair_bytes digits (k + 1) n

-- what is stored of a record: its bytes, and zeros in the gap before them
unfoldable pub words_after : List ℕ → Option Heading → Place → List ℕ → List ℕ
words_after line None p l = l
words_after line (Some End) p l = l
words_after line (Some (Base upper)) p l = l
words_after line (Some (Data address n)) p l =
    store_all (store_all l p.top (replicate (65536 * p.upper + address - p.top) 0)) (65536 * p.upper + address) (pair_bytes (drop 1 line) 4 n)

unfoldable pub place_after : Option Heading → Place → Place
place_after None p = p
place_after (Some End) p = p
place_after (Some (Base upper)) p = record { upper = upper; top = p.top }
place_after (Some (Data address n)) p = record { upper = p.upper; top = 65536 * p.upper + address + n }

-- a record that can be stored
pub record DataFits (line : List ℕ) (address n : ℕ) (p : Place) (l : List ℕ) : Type 0 where
  pub rises : p.top ≤ 65536 * p.upper + address
  pub room : 65536 * p.upper + address + n ≤ 4 * length l
  pub long : n + n + 11 ≤ length line

unfoldable pub RecordFits : List ℕ → Option Heading → Place → List ℕ → Type 0
RecordFits line None p l = Unit
RecordFits line (Some End) p l = Unit
RecordFits line (Some (Base upper)) p l = Unit
RecordFits line (Some (Data address n)) p l = DataFits line address n p l

-- a file that says a program, for which there is room
pub record ImageFits (text l : List ℕ) : Type 0 where
  pub bytes : List ℕ
  pub is : image_of text ≡ image bytes
  pub room : length bytes ≤ 4 * length l
  pub whole : length bytes % 4 ≡ 0

-- its words are stored, and what stands behind them is kept
abbrev pub Stores : List ℕ → List ℕ → List ℕ → Type 0
Stores text l₀ l = (bytes : List ℕ) → image_of text ≡ image bytes → l ≡ program_in bytes ++ drop (length bytes / 4) l₀
