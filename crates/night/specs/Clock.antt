-- Minutes of the day, and those that were skipped between two readings (document 02, T-14).
use Rattle.std.specs.Prelude.{ℕ, ◌+◌, ◌-◌, ◌%◌, Bool, false, ◌||◌, cond, ltb, eqb, Some, None}
use Rattle.night.specs.Types.{Kept}

-- the minutes of a day are 0 to 1439
abbrev pub day_minutes : ℕ
day_minutes = 1440

-- "minute now .. above 1439"
abbrev pub out_of_day : ℕ → Bool
out_of_day minute = ltb 1439 minute

-- "or kept from the last call above 1439": before the first call nothing is kept
abbrev pub kept_out_of_day : Kept → Bool
kept_out_of_day None = false
kept_out_of_day (Some kept) = out_of_day kept

-- how many minutes one reading is after another, "forward round midnight"
abbrev pub forward : ℕ → ℕ → ℕ
forward kept minute = (minute + day_minutes - kept) % day_minutes

-- "Skipped minutes lie strictly between two readings, forward round midnight; the first reading, the same minute again or a marked
-- autumn fall-back skips none." That the minutes counted are those, Claims has as `SkippedBetween`.
unfoldable pub skipped : Kept → ℕ → Bool → ℕ
skipped None minute marked = 0
skipped (Some kept) minute marked = cond (marked || eqb kept minute) 0 (forward kept minute - 1)
