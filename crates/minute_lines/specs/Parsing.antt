-- A line read byte by byte: what is kept of it, and what it gives.
use Rattle.std.specs.Prelude.{ℕ, ◌+◌, ◌-◌, ◌*◌, true, false, cond, List, [], ◌∷◌, eqb}
use Rattle.std.proofs.Math.Option.{Option, none}
use Rattle.night.specs.Clock.{out_of_day}
use Rattle.minute_lines.specs.Line.{Given, is_digit, in_day}
use Rattle.minute_lines.specs.Types.{Line, Empty, Digits, Marked, Wrong}

-- a number above 1439 is kept as 1440
abbrev pub capped : ℕ → ℕ
capped n = cond (out_of_day n) 1440 n

-- a number with one more digit
abbrev pub with_digit : ℕ → ℕ → ℕ
with_digit n byte = capped (10 * n + (byte - 48))

-- a line with one more byte
unfoldable pub with_byte : Line → ℕ → Line
with_byte Empty byte = cond (is_digit byte) (Digits (with_digit 0 byte)) Wrong
with_byte (Digits n) byte = cond (is_digit byte) (Digits (with_digit n byte)) (cond (eqb byte 102) (Marked n) Wrong)
with_byte (Marked n) byte = Wrong
with_byte Wrong byte = Wrong

unfoldable pub with_bytes : Line → List ℕ → Line
with_bytes line [] = line
with_bytes line (byte ∷ bytes) = with_bytes (with_byte line byte) bytes

-- what it gives where it ends there
unfoldable pub reading_in : Line → Option Given
reading_in Empty = none
reading_in (Digits n) = in_day n false
reading_in (Marked n) = in_day n true
reading_in Wrong = none
