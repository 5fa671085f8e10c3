-- An answer as a line of text (document 02, T-14): "prints for each line minute, skipped and relays in decimal, a space apart, or
-- `refused` and the number".
use Rattle.std.specs.Prelude.{Result, Ok, Err, ℕ, List, [], ◌∷◌}
use Rattle.answer.specs.Answer.{Answer, given, refused}
use Rattle.isa.specs.Text.{bytes}
use Rattle.answer.specs.Refusal.{row_of}
use Rattle.night.specs.Answer.{Report, report}
use Rattle.text.specs.Number.{decimal}
use Rattle.text.specs.Parts.{concat}
use Rattle.minute_lines.specs.Types.{Refusal, Tick}

-- what a call answers, as the code says it
abbrev pub answered : Result Tick Refusal → Answer Report
answered (Ok tick) = given (report tick.minute tick.skipped tick.relays)
answered (Err refusal) = refused (row_of refusal)

-- "minute, skipped and relays in decimal, a space apart"
unfoldable pub report_parts : ℕ → ℕ → ℕ → List (List ℕ)
report_parts minute skipped relays = decimal minute ∷ bytes " " ∷ decimal skipped ∷ bytes " " ∷ decimal relays ∷ bytes "\n" ∷ []

-- "`refused` and the number"
unfoldable pub refusal_parts : ℕ → List (List ℕ)
refusal_parts number = bytes "refused " ∷ decimal number ∷ bytes "\n" ∷ []

abbrev pub answer_text : Answer Report → List ℕ
answer_text (given r) = concat (report_parts r.minute r.skipped r.relays)
answer_text (refused number) = concat (refusal_parts number)
