-- What a line of input gives (document 02, T-14): "one minute a line, digits, an `f` right behind marking the fall-back".
use Rattle.std.specs.Prelude.{ℕ, ◌+◌, ◌-◌, ◌*◌, Bool, true, false, ◌&&◌, cond, List, [], ◌∷◌, leb, eqb}
use Rattle.std.proofs.Math.Option.{Option, none, some}
use Rattle.night.specs.Clock.{out_of_day}
use Rattle.minute_lines.specs.Types.{Reading, CodeOption, Some, None}

-- a minute, and whether the fall-back is marked
pub record Given : Type 0 where
  pub minute : ℕ
  pub marked : Bool

-- as the code says it
abbrev pub given : CodeOption Reading → Option Given
given (Some reading) = some (record { minute = reading.minute; marked = reading.marked })
given None = none

-- "digits": `0` to `9`
abbrev pub is_digit : ℕ → Bool
is_digit byte = leb 48 byte && leb byte 57

-- the digits that a line begins with, and what stands behind them
unfoldable pub digits_of : List ℕ → List ℕ
digits_of [] = []
digits_of (byte ∷ line) = cond (is_digit byte) (byte ∷ digits_of line) []

unfoldable pub behind : List ℕ → List ℕ
behind [] = []
behind (byte ∷ line) = cond (is_digit byte) (behind line) (byte ∷ line)

-- the number that digits write, behind a number
unfoldable pub written : ℕ → List ℕ → ℕ
written n [] = n
written n (byte ∷ digits) = written (10 * n + (byte - 48)) digits

-- "an `f` right behind marking the fall-back": what may stand behind the digits, and whether it is the mark
abbrev pub mark : List ℕ → Option Bool
mark [] = some false
mark (byte ∷ []) = cond (eqb byte 102) (some true) none
mark (byte ∷ next ∷ line) = none

-- "19 minute .. above 1439"
abbrev pub in_day : ℕ → Bool → Option Given
in_day minute marked = cond (out_of_day minute) none (some (record { minute = minute; marked = marked }))

abbrev pub marked_minute : ℕ → Option Bool → Option Given
marked_minute minute none = none
marked_minute minute (some marked) = in_day minute marked

-- at least one digit
abbrev pub minute_in : List ℕ → List ℕ → Option Given
minute_in [] rest = none
minute_in (byte ∷ digits) rest = marked_minute (written 0 (byte ∷ digits)) (mark rest)

-- what a line gives; "a line that is no such number" gives none
unfoldable pub read_line : List ℕ → Option Given
read_line line = minute_in (digits_of line) (behind line)
