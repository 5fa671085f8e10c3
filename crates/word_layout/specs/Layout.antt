-- The layouts of the instruction words: each format's parts, from bit 31 down to bit 0, as document 01 gives them.
use Rattle.std.specs.Prelude.{ℕ, suc, ◌+◌, ◌-◌, ◌*◌, ◌/◌, ◌%◌, ◌^◌, Bool, cond, List, [], ◌∷◌, ◌==◌, nat_le, nat_lt}

-- the bits of a word from `high` down to `low`, as a number
abbrev pub bits : ℕ → ℕ → ℕ → ℕ
bits w high low = w / 2 ^ low % 2 ^ (suc high - low)

-- a part of a word: its highest and its lowest bit
pub record Part : Type 0 where
  pub high : ℕ
  pub low : ℕ

infix 80 ◌to◌
abbrev pub ◌to◌ : ℕ → ℕ → Part
high to low = record { high = high; low = low }

abbrev pub width : Part → ℕ
width p = suc p.high - p.low

-- the bits of a word that are a part of it, as a number
abbrev pub field : ℕ → Part → ℕ
field w p = bits w p.high p.low

-- the word's parts
abbrev pub unpack : List Part → ℕ → List ℕ
unpack [] w = []
unpack (p ∷ ps) w = field w p ∷ unpack ps w

-- the word that has these numbers in its parts
abbrev pub pack : List Part → List ℕ → ℕ
pack [] vs = 0
pack (p ∷ ps) [] = 0
pack (p ∷ ps) (v ∷ vs) = v * 2 ^ p.low + pack ps vs

-- whether each number has room in its part
abbrev pub each_fits : List Part → List ℕ → List Bool
each_fits [] vs = []
each_fits (p ∷ ps) [] = []
each_fits (p ∷ ps) (v ∷ vs) = nat_lt v (2 ^ width p) ∷ each_fits ps vs

-- Parts that several formats have: the registers, which R calls d, a and b, and bit 0, which no format names.
abbrev pub first_register : Part
first_register = 23 to 18

abbrev pub second_register : Part
second_register = 17 to 12

abbrev pub third_register : Part
third_register = 11 to 6

abbrev pub bit0 : Part
bit0 = 0 to 0

-- Each format's own parts, all its parts in order, and what its first part is: the prefix that tells the formats apart.

-- "R: bits 31-30 = 00, opcode 29-24, d 23-18, a 17-12, b 11-6, l bit 4, vector flags bit 3 (d), 2 (a), 1 (b)."
abbrev pub format_r : Part
format_r = 31 to 30

abbrev pub opcode_r : Part
opcode_r = 29 to 24

abbrev pub bit5 : Part
bit5 = 5 to 5

abbrev pub bit_l : Part
bit_l = 4 to 4

abbrev pub vector_flags_r : Part
vector_flags_r = 3 to 1

abbrev pub layout_r : List Part
layout_r = format_r ∷ opcode_r ∷ first_register ∷ second_register ∷ third_register ∷ bit5 ∷ bit_l ∷ vector_flags_r ∷ bit0 ∷ []

abbrev pub prefix_r : ℕ
prefix_r = 0b00

-- "I: bits 31-29 = 010, opcode 28-24, d 23-18, a 17-12, signed immediate 11-3, flags bit 2 (d), 1 (a)."
abbrev pub format_i : Part
format_i = 31 to 29

abbrev pub opcode_i : Part
opcode_i = 28 to 24

abbrev pub immediate_i : Part
immediate_i = 11 to 3

abbrev pub vector_flags_i : Part
vector_flags_i = 2 to 1

abbrev pub layout_i : List Part
layout_i = format_i ∷ opcode_i ∷ first_register ∷ second_register ∷ immediate_i ∷ vector_flags_i ∷ bit0 ∷ []

abbrev pub prefix_i : ℕ
prefix_i = 0b010

-- "MOVEI: bits 31-27 = 01100, opcode 26-24, d 23-18, immediate 17-2, vector flag bit 1." Whether it is signed: isa/specs/Number.antt
abbrev pub format_movei : Part
format_movei = 31 to 27

abbrev pub opcode_movei : Part
opcode_movei = 26 to 24

abbrev pub immediate_movei : Part
immediate_movei = 17 to 2

abbrev pub vector_flag : Part
vector_flag = 1 to 1

abbrev pub layout_movei : List Part
layout_movei = format_movei ∷ opcode_movei ∷ first_register ∷ immediate_movei ∷ vector_flag ∷ bit0 ∷ []

abbrev pub prefix_movei : ℕ
prefix_movei = 0b01100

-- "J: bits 31-27 = 01110, opcode 26-24, register 23-18, signed byte offset 17-0"
abbrev pub format_j : Part
format_j = 31 to 27

abbrev pub opcode_j : Part
opcode_j = 26 to 24

abbrev pub offset_j : Part
offset_j = 17 to 0

abbrev pub layout_j : List Part
layout_j = format_j ∷ opcode_j ∷ first_register ∷ offset_j ∷ []

abbrev pub prefix_j : ℕ
prefix_j = 0b01110

-- "C: bits 31-27 = 01111, opcode 26-24, first register 23-18, second 17-12."
abbrev pub format_c : Part
format_c = 31 to 27

abbrev pub opcode_c : Part
opcode_c = 26 to 24

abbrev pub low_bits_c : Part
low_bits_c = 11 to 0

abbrev pub layout_c : List Part
layout_c = format_c ∷ opcode_c ∷ first_register ∷ second_register ∷ low_bits_c ∷ []

abbrev pub prefix_c : ℕ
prefix_c = 0b01111

-- "M: bits 31-30 = 10, opcode 29-24, register 23-18, scalar base 17-12, signed offset 11-3, bits 2 and 1."
abbrev pub format_m : Part
format_m = 31 to 30

abbrev pub opcode_m : Part
opcode_m = 29 to 24

abbrev pub offset_m : Part
offset_m = 11 to 3

abbrev pub bits_m : Part
bits_m = 2 to 1

abbrev pub layout_m : List Part
layout_m = format_m ∷ opcode_m ∷ first_register ∷ second_register ∷ offset_m ∷ bits_m ∷ bit0 ∷ []

abbrev pub prefix_m : ℕ
prefix_m = 0b10

-- x, a signed number whose sign bit weighs h, as one of n bits: each new bit is as the sign bit
abbrev pub extended : ℕ → ℕ → ℕ → ℕ
extended n h x = cond (nat_le h x) (x + (2 ^ n - 2 * h)) x

-- A signed number is held modulo 2^32. A signed field whose sign bit weighs h, as the number that it stands for;
unfoldable pub signed : ℕ → ℕ → ℕ
signed h n = extended 32 h n

-- the field of a number;
abbrev pub truncated : ℕ → ℕ → ℕ
truncated h n = n % (2 * h)

-- and whether a number is one that such a field stands for.
unfoldable pub fits_signed : ℕ → ℕ → Bool
fits_signed h n = signed h (truncated h n) == n

-- what the highest bit of a part weighs in it: the sign bit of a signed field
abbrev pub sign_bit : Part → ℕ
sign_bit p = 2 ^ (p.high - p.low)

-- the number that a signed part of a word stands for
abbrev pub signed_field : ℕ → Part → ℕ
signed_field w p = signed (sign_bit p) (field w p)
