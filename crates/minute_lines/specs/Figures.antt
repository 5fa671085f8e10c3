-- Lines of input and of output, computed.
use Rattle.std.specs.Prelude.{ℕ, Bool, true, false, [], ◌∷◌, ◌≡◌}
use Prim.Native.String.{String}
use Rattle.std.proofs.Math.Option.{Option, none, some}
use Rattle.answer.specs.Answer.{given, refused}
use Rattle.isa.specs.Text.{bytes}
use Rattle.night.specs.Answer.{report}
use Rattle.minute_lines.specs.Answers.{answer_text}
use Rattle.minute_lines.specs.Line.{Given, read_line}
use Rattle.minute_lines.specs.Taking.{lines_of}

abbrev pub line : String → Option Given
line text = read_line (bytes text)

abbrev pub minute : ℕ → Bool → Option Given
minute m marked = some (record { minute = m; marked = marked })

pub record FiguresHold : Type 0 where
  -- "digits, an `f` right behind marking the fall-back"
  pub plain : line "119" ≡ minute 119 false
  pub marked : line "120f" ≡ minute 120 true
  pub last : line "1439" ≡ minute 1439 false
  pub zeros : line "0007" ≡ minute 7 false
  -- "19 minute .. above 1439, or a line that is no such number"
  pub late : line "1440" ≡ none
  pub long : line "99999999999999999999" ≡ none
  pub empty : line "" ≡ none
  pub lone-mark : line "f" ≡ none
  pub two-marks : line "12ff" ≡ none
  pub upper-mark : line "12F" ≡ none
  pub inside : line "1f2" ≡ none
  pub blank-before : line " 12" ≡ none
  pub blank-behind : line "12 " ≡ none
  pub carriage-return : line "12\r" ≡ none
  pub sign : line "-1" ≡ none
  -- an empty line is one, and a last line needs no line end
  pub two-lines : lines_of (bytes "1\n\n2") ≡ bytes "1" ∷ [] ∷ bytes "2" ∷ []
  pub no_more : lines_of (bytes "1\n") ≡ bytes "1" ∷ []
  -- "minute, skipped and relays in decimal, a space apart, or `refused` and the number"
  pub spring : answer_text (given (report 180 60 8191)) ≡ bytes "180 60 8191\n"
  pub refusal : answer_text (refused 19) ≡ bytes "refused 19\n"
