-- A line read byte by byte gives what the whole line gives.
use Prim.Native.Nat.{ℕ, ◌+◌, ◌-◌, ◌*◌, ◌<◌}
use mathlib.Core.Bool.{Bool, true, false, cond}
use mathlib.Core.List.{List, [], ◌∷◌, ◌++◌}
use mathlib.Core.Path.{◌≡◌, refl, ap, ◌∙◌}
use native.Mathlib.Decide.{dec_lt}
use native.Mathlib.Omega.{arith}
use borrow.Author.Tests.{lt-ltb, le-ltb}
use lib.Dec.{eqb}
use Rattle.minute_lines.specs.Line.{is_digit, digits_of, behind, written, mark, in_day, marked_minute, minute_in, read_line}
use Rattle.minute_lines.specs.Parsing.{capped, with_digit, with_byte, with_bytes, reading_in}
use Rattle.minute_lines.specs.Claims.{ReadsLines}
use Rattle.minute_lines.specs.Types.{Line, Digits, Marked, Wrong}

-- A number above 1439 may be kept as 1440.

digit-capped : (n byte : ℕ) → with_digit (capped n) byte ≡ capped (10 * n + (byte - 48))
digit-capped n byte = go (dec_lt 1439 n)
  where
    go : Dec (1439 < n) → with_digit (capped n) byte ≡ capped (10 * n + (byte - 48))
    go (yes h) = rw (lt-ltb 1439 n h, lt-ltb 1439 (10 * 1440 + (byte - 48)) (omega arith), lt-ltb 1439 (10 * n + (byte - 48)) (omega arith))
    go (no h) = rw (le-ltb 1439 n (omega arith))

day-capped : (n : ℕ) (marked : Bool) → in_day (capped n) marked ≡ in_day n marked
day-capped n marked = go (dec_lt 1439 n)
  where
    go : Dec (1439 < n) → in_day (capped n) marked ≡ in_day n marked
    go (yes h) = rw (lt-ltb 1439 n h)
    go (no h) = let e : capped n ≡ n = rw (le-ltb 1439 n (omega arith)) in ap (λ x. in_day x marked) e

wrong_stays : (line : List ℕ) → with_bytes Wrong line ≡ Wrong
unfolding with_bytes with_byte
wrong_stays [] = refl
wrong_stays (byte ∷ line) = wrong_stays line

-- behind the digits there is the mark and nothing else, or nothing
mark-read : (n : ℕ) (q : Bool) (line : List ℕ) (byte : ℕ) → eqb byte 102 ≡ q
    → reading_in (with_bytes (cond q (Marked (capped n)) Wrong) line) ≡ marked_minute n (mark (byte ∷ line))
unfolding with_bytes with_byte reading_in
mark-read n true [] byte e = rw e (day-capped n true)
mark-read n false [] byte e = rw e
mark-read n true (next ∷ line) byte e = ap reading_in (wrong_stays line)
mark-read n false (next ∷ line) byte e = ap reading_in (wrong_stays line)

digits-read : (line : List ℕ) (n : ℕ) → reading_in (with_bytes (Digits (capped n)) line) ≡ marked_minute (written n (digits_of line)) (mark (behind line))
unfolding with_bytes with_byte reading_in digits_of behind written
digits-read [] n = day-capped n false
digits-read (byte ∷ line) n = go (is_digit byte) (digits-read line (10 * n + (byte - 48)))
  where
    go : (d : Bool)
        → reading_in (with_bytes (Digits (capped (10 * n + (byte - 48)))) line) ≡ marked_minute (written (10 * n + (byte - 48)) (digits_of line)) (mark (behind line))
        → reading_in (with_bytes (cond d (Digits (with_digit (capped n) byte)) (cond (eqb byte 102) (Marked (capped n)) Wrong)) line)
        ≡ marked_minute (written n (cond d (byte ∷ digits_of line) [])) (mark (cond d (behind line) (byte ∷ line)))
    go true rest = ap (λ x. reading_in (with_bytes (Digits x) line)) (digit-capped n byte) ∙ rest
    go false rest = mark-read n (eqb byte 102) line byte refl

pub reads_lines : ReadsLines
unfolding with_bytes with_byte reading_in digits_of behind written read_line
reads_lines [] = refl
reads_lines (byte ∷ line) = go (is_digit byte)
  where
    go : (d : Bool)
        → reading_in (with_bytes (cond d (Digits (with_digit 0 byte)) Wrong) line) ≡ minute_in (cond d (byte ∷ digits_of line) []) (cond d (behind line) (byte ∷ line))
    go true = digits-read line (10 * 0 + (byte - 48))
    go false = ap reading_in (wrong_stays line)

-- one byte more
pub with-last : (line : Line) (bytes : List ℕ) (byte : ℕ) → with_byte (with_bytes line bytes) byte ≡ with_bytes line (bytes ++ byte ∷ [])
unfolding with_bytes
with-last line [] byte = refl
with-last line (first ∷ bytes) byte = with-last (with_byte line first) bytes byte
